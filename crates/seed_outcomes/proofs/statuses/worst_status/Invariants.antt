-- The status is the worst of those so far.
use Rattle.std.proofs.Common.{◌≡◌, ◌<◌, ◌≤◌, ℕ, Some}
use Rattle.std.specs.Prelude.{slice_get}
use Rattle.end_kinds.specs.Statuses.{badness}
use Rattle.seed_outcomes.specs.Outcomes.{IsOfSome, status_of_outcome}
use Rattle.seed_outcomes.specs.declared.outcomes.SeedOutcome.{SeedOutcome}
use Rattle.seed_outcomes.proofs.statuses.worst_status.Given as goal

abbrev pub invariant-loop-outcome : goal.invariant-loop-outcome
invariant-loop-outcome l = record {
  some : IsOfSome l.outcomes l.status;
  each : (k : ℕ) (o : SeedOutcome) → k < l.outcome-index → slice_get l.outcomes k ≡ Some o
      → badness (status_of_outcome o) ≤ badness l.status;
}
