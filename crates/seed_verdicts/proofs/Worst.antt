-- Which flaw of a run is the worst.
use Rattle.std.proofs.Common.{◌≡◌, ℕ, ◌≤◌, ◌⊎◌, inl, inr, sym, ap, ◌∙◌, subst, arith, List, take, Some, None}
use Rattle.image_file.specs.ImageValue.{ImageValue}
use Rattle.processor.specs.World.{World, run}
use Rattle.processor.specs.declared.steps.Step.{Step}
use Rattle.waiting.specs.Stuck.{SomeRuns, IsStandstill}
use Rattle.expectations.specs.Meeting.{is_met}
use Rattle.expectations.specs.declared.expectation.Expectation.{Expectation}
use Rattle.claims.specs.Holding.{holds}
use Rattle.claims.specs.declared.claim.Claim.{Claim}
use Rattle.schedule_verdicts.specs.RightEnds.{AreTrapsExpected, AreWaitsExpected}
use Rattle.schedule_verdicts.specs.ScheduleSpace.Reaching.{IsEnd}
use Rattle.schedule_verdicts.proofs.Resting.{none_waits}
use Rattle.schedule_verdicts.specs.KeptClaims.{AreKeptOnTheWay}
use Rattle.seed_verdicts.specs.RunFlaws.{first_missed, IsFirstBroken, IsRightRun, Shows, rank, IsWorst}
use Rattle.seed_verdicts.specs.EndFlaws.{IsFlawless}
use Rattle.seed_verdicts.specs.declared.run_flaw.RunFlaw.{RunFlaw}
use Rattle.seed_verdicts.specs.declared.run_flaw.RunFlaw.TheVariants as flaw
use Rattle.seed_verdicts.proofs.Places.{passed, fails_none}

module _ (image : ImageValue) (ts : List Step) (expected : List Expectation) (claims : List Claim) where
  abbrev End : World
  End = run image ts

  pub trap : ¬ AreTrapsExpected expected End → IsWorst image ts expected claims flaw.Trap
  trap not_so = record { shown = not_so; worst = λ other shows. omega arith }

  pub deadlock : AreTrapsExpected expected End → IsStandstill image End → ¬ AreWaitsExpected expected End
      → IsWorst image ts expected claims flaw.Deadlock
  deadlock traps still waits = record { shown = (still, waits); worst = by } where
    by : (other : RunFlaw) → Shows image ts expected claims other → 1 ≤ rank other
    by flaw.Trap not_so = absurd (not_so traps)
    by flaw.Deadlock shows = omega arith
    by (flaw.Missed place) shows = omega arith
    by (flaw.Broken taken claim) shows = omega arith
    by flaw.OutOfSteps shows = omega arith

  pub missed : (place : ℕ) → AreTrapsExpected expected End → AreWaitsExpected expected End → IsEnd image End
      → first_missed expected End ≡ Some place → IsWorst image ts expected claims (flaw.Missed place)
  missed place traps waits ends first = record { shown = (ends, first); worst = by } where
    by : (other : RunFlaw) → Shows image ts expected claims other → 2 ≤ rank other
    by flaw.Trap not_so = absurd (not_so traps)
    by flaw.Deadlock shows = absurd (shows.1 waits)
    by (flaw.Missed other) shows = omega arith
    by (flaw.Broken taken claim) shows = omega arith
    by flaw.OutOfSteps shows = omega arith

  met_or_missed : IsFlawless image End expected → (place : ℕ) → IsEnd image End
      → first_missed expected End ≡ Some place → ⊥
  met_or_missed none place ends first = fails_none (is_met End) expected place (none.met ends) (sym first)

  pub broken : (taken claim : ℕ) → IsFlawless image End expected → IsFirstBroken image ts claims taken claim
      → IsWorst image ts expected claims (flaw.Broken taken claim)
  broken taken claim none first = record { shown = first; worst = by } where
    by : (other : RunFlaw) → Shows image ts expected claims other → 3 ≤ rank other
    by flaw.Trap not_so = absurd (not_so none.traps)
    by flaw.Deadlock shows = absurd (shows.1 (none.waits (inr shows.0)))
    by (flaw.Missed place) shows = absurd (met_or_missed none place shows.0 shows.1)
    by (flaw.Broken other there) shows = omega arith
    by flaw.OutOfSteps shows = omega arith

  pub out_of_steps : IsFlawless image End expected → AreKeptOnTheWay image ts claims → SomeRuns End
      → ¬ IsStandstill image End → IsWorst image ts expected claims flaw.OutOfSteps
  out_of_steps none kept some able = record { shown = (some, able); worst = by } where
    by : (other : RunFlaw) → Shows image ts expected claims other → 4 ≤ rank other
    by flaw.Trap not_so = absurd (not_so none.traps)
    by flaw.Deadlock shows = absurd (able shows.0)
    by (flaw.Missed place) shows = absurd (met_or_missed none place shows.0 shows.1)
    by (flaw.Broken taken claim) shows =
        absurd
        (fails_none (holds (run image (take taken ts))) claims claim (kept taken shows.within) (sym shows.broken))
    by flaw.OutOfSteps shows = omega arith

  pub right : IsFlawless image End expected → AreKeptOnTheWay image ts claims → IsEnd image End
      → IsRightRun image ts expected claims
  right none kept ends = record {
    ended = ends;
    end = record { waits = none.waits ends; met = none.met ends; traps = none.traps };
    kept = kept;
  }

-- An end is flawless where each stream that runs may wait, no expectation is missed, and each trap is expected.
pub flawless_end : (image : ImageValue) (w : World) (expected : List Expectation) → AreTrapsExpected expected w
    → AreWaitsExpected expected w → first_missed expected w ≡ None → IsFlawless image w expected
flawless_end image w expected traps waits none = record {
  traps = traps;
  waits = λ _. waits;
  met = λ _. passed (is_met w) expected (sym none);
}

-- where nothing goes on, and some stream may not wait, none that runs can go on
pub standing : (image : ImageValue) (w : World) (expected : List Expectation) → IsEnd image w
    → ¬ AreWaitsExpected expected w → IsStandstill image w
standing image w expected (inl none) not_so = absurd (not_so (none_waits expected w none))
standing image w expected (inr still) not_so = still

-- The same of each run that leads to a world.
module _ (image : ImageValue) (w : World) (expected : List Expectation) where
  pub trap_at : ¬ AreTrapsExpected expected w → (ts : List Step) (claims : List Claim) → run image ts ≡ w
      → IsWorst image ts expected claims flaw.Trap
  trap_at not_so ts claims at =
      trap image ts expected claims (subst (λ x. ¬ AreTrapsExpected expected x) (sym at) not_so)

  pub deadlock_at : AreTrapsExpected expected w → IsEnd image w → ¬ AreWaitsExpected expected w → (ts : List Step)
      (claims : List Claim) → run image ts ≡ w → IsWorst image ts expected claims flaw.Deadlock
  deadlock_at traps ends waits ts claims at =
      deadlock image ts expected claims (subst (AreTrapsExpected expected) (sym at) traps)
      (subst (IsStandstill image) (sym at) (standing image w expected ends waits))
      (subst (λ x. ¬ AreWaitsExpected expected x) (sym at) waits)

  pub missed_at : (place : ℕ) → AreTrapsExpected expected w → AreWaitsExpected expected w → IsEnd image w
      → first_missed expected w ≡ Some place → (ts : List Step) (claims : List Claim) → run image ts ≡ w
      → IsWorst image ts expected claims (flaw.Missed place)
  missed_at place traps waits ends first ts claims at =
      missed image ts expected claims place (subst (AreTrapsExpected expected) (sym at) traps)
      (subst (AreWaitsExpected expected) (sym at) waits) (subst (IsEnd image) (sym at) ends)
      (ap (first_missed expected) at ∙ first)

  pub flawless_bound : AreTrapsExpected expected w → SomeRuns w → ¬ IsStandstill image w → IsFlawless image w expected
  flawless_bound traps some able = record {
    traps = traps;
    waits = λ ends. absurd (never ends);
    met = λ ends. absurd (never ends);
  } where
    never : IsEnd image w → ⊥
    never (inl none) = none some
    never (inr still) = able still
