use Rattle.std.proofs.Common.{refl, rules}
use Rattle.std.specs.Prelude.{IsTrue}
use Rattle.waiting.specs.Running.{runs_in}
use Rattle.waiting.specs.Stuck.{IsStuck}
use Rattle.waiting.proofs.Looking.{below_next, each_stuck, all_are_stuck}
use Rattle.waiting.proofs.stuck.all_stuck.Goals as goal

pub loop-p-preserved : goal.loop-p-preserved
loop-p-preserved g c =
    let m = c.args.machine.now in
    below_next (λ t. IsTrue (runs_in m.world t) → IsStuck m.image m.world t) c.loop-p.p c.loop-p.invariant
    (each_stuck g.row.S m c.loop-p.p c.loop-s.s c.image-image.ensures.kept (search rules) c.loop-s.invariant)

pub returns : goal.returns
returns g c = (
  λ yes.
      all_are_stuck g.row.S c.args.machine.now c.loop-p.p c.image-image.ensures.kept (search rules)
      c.loop-p.invariant,
  λ all. refl,
)
