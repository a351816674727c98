-- Whether a run is right, and what is wrong with one that is not.
use Rattle.std.specs.Prelude.{◌≡◌, ◌<◌, ◌≤◌, ℕ, not, List, Option, Some, None, length, take, IsTrue}
use Rattle.std.specs.List.{position}
use Rattle.image_file.specs.ImageValue.{ImageValue}
use Rattle.processor.specs.World.{World, run}
use Rattle.processor.specs.declared.steps.Step.{Step}
use Rattle.waiting.specs.Stuck.{SomeRuns, IsStandstill}
use Rattle.expectations.specs.Meeting.{is_met}
use Rattle.expectations.specs.declared.expectation.Expectation.{Expectation}
use Rattle.claims.specs.Holding.{holds}
use Rattle.claims.specs.declared.claim.Claim.{Claim}
use Rattle.schedule_verdicts.specs.RightEnds.{IsRightEnd, AreTrapsExpected, AreWaitsExpected}
use Rattle.schedule_verdicts.specs.ScheduleSpace.Reaching.{IsEnd}
use Rattle.schedule_verdicts.specs.KeptClaims.{all_hold, AreKeptOnTheWay}
use Rattle.seed_verdicts.specs.declared.run_flaw.RunFlaw.{RunFlaw}
use Rattle.seed_verdicts.specs.declared.run_flaw.RunFlaw.TheVariants as flaw

-- the place of the first expectation that a world does not meet
abbrev pub first_missed : List Expectation → World → Option ℕ
first_missed expected w = position (λ e. not (is_met w e)) expected

-- the place of the first claim that does not hold of a world
abbrev pub first_unkept : List Claim → World → Option ℕ
first_unkept claims w = position (λ c. not (holds w c)) claims

-- On the way through a schedule claims hold of each world, and then this one, the first of them, does not.
pub record IsFirstBroken (image : ImageValue) (ts : List Step) (claims : List Claim) (taken claim : ℕ) : Type 0 where
  pub within : taken ≤ length ts
  pub broken : first_unkept claims (run image (take taken ts)) ≡ Some claim
  pub before : (k : ℕ) → k < taken → IsTrue (all_hold claims (run image (take k ts)))

-- A run by a schedule is right: nothing goes on from its end, that is right, and what is claimed holds of each world on its
-- way, the start and the end too.
pub record IsRightRun (image : ImageValue) (ts : List Step) (expected : List Expectation) (claims : List Claim)
    : Type 0 where
  pub ended : IsEnd image (run image ts)
  pub end : IsRightEnd expected (run image ts)
  pub kept : AreKeptOnTheWay image ts claims

-- A run by a schedule shows a flaw.
abbrev pub Shows : ImageValue → List Step → List Expectation → List Claim → RunFlaw → Type 0
Shows image ts expected claims flaw.Trap = ¬ AreTrapsExpected expected (run image ts)
Shows image ts expected claims flaw.Deadlock =
    IsStandstill image (run image ts) × (¬ AreWaitsExpected expected (run image ts))
Shows image ts expected claims (flaw.Missed place) =
    IsEnd image (run image ts) × (first_missed expected (run image ts) ≡ Some place)
Shows image ts expected claims (flaw.Broken taken claim) = IsFirstBroken image ts claims taken claim
Shows image ts expected claims flaw.OutOfSteps = SomeRuns (run image ts) × (¬ IsStandstill image (run image ts))

-- its place in the order in which one is told of several
abbrev pub rank : RunFlaw → ℕ
rank flaw.Trap = 0
rank flaw.Deadlock = 1
rank (flaw.Missed place) = 2
rank (flaw.Broken taken claim) = 3
rank flaw.OutOfSteps = 4

-- A run shows this flaw, and none that stands before it in the order.
pub record IsWorst (image : ImageValue) (ts : List Step) (expected : List Expectation) (claims : List Claim)
    (told : RunFlaw) : Type 0 where
  pub shown : Shows image ts expected claims told
  pub worst : (other : RunFlaw) → Shows image ts expected claims other → rank told ≤ rank other

-- what is told of a run: its worst flaw, or none where it is right
abbrev pub IsTold : ImageValue → List Step → List Expectation → List Claim → Option RunFlaw → Type 0
IsTold image ts expected claims None = IsRightRun image ts expected claims
IsTold image ts expected claims (Some told) = IsWorst image ts expected claims told
