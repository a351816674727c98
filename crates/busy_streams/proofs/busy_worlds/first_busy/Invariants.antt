-- No stream loops from a world so far.
use Rattle.std.proofs.Common.{ℕ, ◌<◌}
use Rattle.processor.specs.declared.steps.Step.{Step}
use Rattle.busy_streams.specs.OwnCycles.{IsFreeCycle}
use Rattle.busy_streams.proofs.busy_worlds.first_busy.Given as goal

abbrev pub invariant-loop-place : goal.invariant-loop-place
invariant-loop-place g l = (k : ℕ) → k < l.place → (t : Step) → ¬ (IsFreeCycle l.space k t)
