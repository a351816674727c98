-- None of the streams that were looked at runs.
use Rattle.std.proofs.Common.{◌≡◌, ◌<◌, ℕ, false}
use Rattle.machine.specs.ProcessorTypes.Step.{Step}
use Rattle.waiting.specs.Running.{runs_in}
use Rattle.waiting.proofs.stuck.some_run.Given as goal

abbrev pub invariant-loop-p : goal.invariant-loop-p
invariant-loop-p g l = (t : Step) → t.p < l.p → runs_in l.machine.world t ≡ false

abbrev pub invariant-loop-s : goal.invariant-loop-s
invariant-loop-s g l = (n : ℕ) → n < l.s → runs_in l.machine.world (record { p = l.p; s = n }) ≡ false
