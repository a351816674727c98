-- Each of the streams that were looked at is stuck, if it runs.
use Rattle.std.proofs.Common.{◌<◌, ℕ}
use Rattle.std.specs.Prelude.{IsTrue}
use Rattle.machine.specs.ProcessorTypes.Step.{Step}
use Rattle.waiting.specs.Running.{runs_in}
use Rattle.waiting.specs.Stuck.{IsStuck}
use Rattle.waiting.proofs.stuck.all_stuck.Given as goal

abbrev pub invariant-loop-p : goal.invariant-loop-p
invariant-loop-p g l =
    (t : Step) → t.p < l.p → IsTrue (runs_in l.machine.world t) → IsStuck l.machine.image l.machine.world t

abbrev pub invariant-loop-s : goal.invariant-loop-s
invariant-loop-s g l =
    (n : ℕ) → n < l.s → IsTrue (runs_in l.machine.world (record { p = l.p; s = n }))
    → IsStuck l.machine.image l.machine.world (record { p = l.p; s = n })
