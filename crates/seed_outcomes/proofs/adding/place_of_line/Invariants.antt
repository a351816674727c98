-- No outcome so far is of the line.
use Rattle.std.proofs.Common.{◌≡◌, ◌<◌, ℕ, Some}
use Rattle.std.specs.Prelude.{slice_get}
use Rattle.seed_outcomes.specs.Outcomes.{AreOfOneLine}
use Rattle.seed_outcomes.specs.declared.outcomes.SeedOutcome.{SeedOutcome}
use Rattle.seed_outcomes.proofs.adding.place_of_line.Given as goal

abbrev pub invariant-loop-place : goal.invariant-loop-place
invariant-loop-place l =
    (k : ℕ) (o : SeedOutcome) → k < l.place → slice_get l.outcomes k ≡ Some o → ¬ AreOfOneLine o l.other
