use Rattle.std.proofs.Common.{ap, arith, length}
use Rattle.touched_words.specs.TouchTables.{TouchValue}
use Rattle.touched_words.proofs.Leading.{closed_all}
use Rattle.touched_words.proofs.touch_tables.TouchTable.is_closed.Goals as goal

pub returns : goal.returns
returns c =
    λ yes.
    closed_all c.args.profile c.args.program.now c.args.self.now c.loop-place.place
    (omega (arith, ap (λ (v : TouchValue). length v.closed) c.self.view_is)) c.loop-place.invariant
