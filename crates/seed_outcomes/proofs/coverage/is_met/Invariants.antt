-- No outcome so far meets the end.
use Rattle.std.proofs.Common.{◌≡◌, ◌<◌, ℕ, Some}
use Rattle.std.specs.Prelude.{slice_get}
use Rattle.seed_outcomes.specs.Coverage.{IsMetBy}
use Rattle.seed_outcomes.specs.declared.outcomes.SeedOutcome.{SeedOutcome}
use Rattle.seed_outcomes.proofs.coverage.is_met.Given as goal

abbrev pub invariant-loop-outcome : goal.invariant-loop-outcome
invariant-loop-outcome l =
    (k : ℕ) (o : SeedOutcome) → k < l.outcome-index → slice_get l.outcomes k ≡ Some o → ¬ IsMetBy l.end o
