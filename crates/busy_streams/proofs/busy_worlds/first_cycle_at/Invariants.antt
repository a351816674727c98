-- None of the streams so far loops.
use Rattle.std.proofs.Common.{◌≡◌, ℕ, ◌<◌, Some, slice_get}
use Rattle.processor.specs.declared.steps.Step.{Step}
use Rattle.busy_streams.specs.OwnCycles.{IsFreeCycle}
use Rattle.busy_streams.proofs.busy_worlds.first_cycle_at.Given as goal

abbrev pub invariant-loop-number : goal.invariant-loop-number
invariant-loop-number g l =
    (i : ℕ) (u : Step) → i < l.number → slice_get l.running.items i ≡ Some u → ¬ (IsFreeCycle l.space l.place u)
