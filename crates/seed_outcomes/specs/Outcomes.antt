-- What a survey counts.
use Rattle.std.specs.Prelude.{◌≡◌, ◌≤◌, ◌⊎◌, ℕ, List, Some, length, slice_get, Contains, All}
use Rattle.std.specs.List.{sum_by}
use Rattle.image_file.specs.ImageValue.{ImageValue}
use Rattle.schedule_makers.specs.FairLengths.{IsFairLength}
use Rattle.space_ends.specs.SeedVerdicts.Seeds.{loaded}
use Rattle.expectation_files.specs.declared.requirements.Requirements.{Requirements}
use Rattle.end_kinds.specs.Statuses.{badness}
use Rattle.end_kinds.specs.declared.statuses.Status.{Status}
use Rattle.end_kinds.specs.declared.statuses.Status.TheVariants as status
use Rattle.space_ends.specs.EndStates.EndStates.{AreSameStates}
use Rattle.space_ends.specs.EndStates.Judgements.{status_of_judged}
use Rattle.seed_outcomes.specs.Sharing.{AreShared}
use Rattle.seed_outcomes.specs.SeedLists.{seeds_between}
use Rattle.seed_outcomes.specs.SeedRuns.{SurveyedProgram, IsSeedRun, EndsSo}
use Rattle.seed_outcomes.specs.declared.outcomes.SeedOutcome.{SeedOutcome}
use Rattle.seed_outcomes.specs.declared.surveys.SurveySeeds.{SurveySeeds}

-- Two outcomes are of one line: they are judged alike, and show the same.
pub record AreOfOneLine (one other : SeedOutcome) : Type 0 where
  pub judgement : one.judgement ≡ other.judgement
  pub state : AreSameStates one.state other.state

-- These are the seeds that an outcome counts. The run of each ends as the outcome says. The seed that it names is one of
-- them, and has a run of as many steps as it says.
pub record CountsSeeds (p : SurveyedProgram) (o : SeedOutcome) (share : List ℕ) : Type 0 where
  pub runs : o.runs ≡ length share
  pub first : Contains share o.seed
  pub run : IsSeedRun p o.seed o.steps o.judgement o.state
  pub each : All (EndsSo p o.judgement o.state) share

-- No two outcomes are of one line.
abbrev pub AreDistinct : List SeedOutcome → Type 0
AreDistinct os =
    (j k : ℕ) (one other : SeedOutcome) → slice_get os j ≡ Some one → slice_get os k ≡ Some other
    → AreOfOneLine one other → j ≡ k

-- Each of these seeds is counted by one outcome, once, and its run ends as that one says. No other outcome says the same.
pub record AreOutcomes (p : SurveyedProgram) (seeds : List ℕ) (os : List SeedOutcome) : Type 0 where
  pub shares : AreShared (CountsSeeds p) seeds os
  pub distinct : AreDistinct os

-- how many runs outcomes count
abbrev pub runs_in_all : List SeedOutcome → ℕ
runs_in_all os = sum_by (λ (o : SeedOutcome). o.runs) os

-- These are the outcomes of the seeds that are asked for, where the fair run of the image has as many steps as it has.
pub record AreOutcomesOf (image : ImageValue) (required : Requirements) (asked : SurveySeeds) (os : List SeedOutcome)
    : Type 0 where
  pub fair : ℕ
  pub is_fair : IsFairLength (loaded image) fair
  pub outcomes : AreOutcomes
      (record {
        image = image;
        expected = required.ends.items;
        claims = required.claims.items;
        fair = fair;
        most = asked.most;
      })
      (seeds_between asked.first 0 asked.count) os

-- the exit status of an outcome
abbrev pub status_of_outcome : SeedOutcome → Status
status_of_outcome o = status_of_judged o.judgement

-- A status is that of one of some outcomes, or `Done`.
abbrev pub IsOfSome : List SeedOutcome → Status → Type 0
IsOfSome os s = (s ≡ status.Done) ⊎ ((k : ℕ) × (o : SeedOutcome) × (slice_get os k ≡ Some o) × (s ≡ status_of_outcome o))

-- It is as bad as that of each.
abbrev pub IsAsBadAsEach : List SeedOutcome → Status → Type 0
IsAsBadAsEach os s = (k : ℕ) (o : SeedOutcome) → slice_get os k ≡ Some o → badness (status_of_outcome o) ≤ badness s
