use Rattle.std.proofs.Common.{refl}
use Rattle.stream_waits.proofs.waits.wait_at.Goals as goal

pub returns : goal.returns
returns g c = (
  c.in_ok-wait.ensures.asked.0 refl,
  record {
    stream = refl;
    pc = c.pc_of.ensures;
    waits = (c.in_ok-wait.ensures.is c.in_ok-wait.wait).0 refl;
    since = c.first_try.ensures;
    turn = c.last_turn.ensures;
    stuck = c.is_stuck.ensures;
  },
)
