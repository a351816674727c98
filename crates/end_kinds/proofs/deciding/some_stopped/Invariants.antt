-- None of the streams that were looked at was stopped.
use Rattle.std.proofs.Common.{◌≡◌, ◌<◌, ℕ, false}
use Rattle.waiting.specs.ProcessorTypes.Step.{Step}
use Rattle.end_kinds.specs.Ends.{stopped_in}
use Rattle.end_kinds.proofs.deciding.some_stopped.Given as goal

abbrev pub invariant-loop-p : goal.invariant-loop-p
invariant-loop-p g l = (t : Step) → t.p < l.p → stopped_in l.machine.world t ≡ false

abbrev pub invariant-loop-s : goal.invariant-loop-s
invariant-loop-s g l = (n : ℕ) → n < l.s → stopped_in l.machine.world (record { p = l.p; s = n }) ≡ false
