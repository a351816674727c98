-- What is told of the end of a run.
use Rattle.std.specs.Prelude.{◌≡◌, List, Option, Some, None, IsTrue}
use Rattle.image_file.specs.ImageValue.{ImageValue}
use Rattle.processor.specs.World.{World, run}
use Rattle.processor.specs.declared.steps.Step.{Step}
use Rattle.expectations.specs.declared.expectation.Expectation.{Expectation}
use Rattle.claims.specs.declared.claim.Claim.{Claim}
use Rattle.schedule_verdicts.specs.RightEnds.{AreTrapsExpected, AreWaitsExpected, are_met}
use Rattle.schedule_verdicts.specs.ScheduleSpace.Reaching.{IsEnd}
use Rattle.seed_verdicts.specs.RunFlaws.{IsWorst}
use Rattle.seed_verdicts.specs.declared.run_flaw.RunFlaw.{RunFlaw}

-- An end shows nothing that is wrong with it; whether each stream that runs may wait there, and whether its expectations
-- are met, is asked where nothing goes on.
pub record IsFlawless (image : ImageValue) (w : World) (expected : List Expectation) : Type 0 where
  pub traps : AreTrapsExpected expected w
  pub waits : IsEnd image w → AreWaitsExpected expected w
  pub met : IsEnd image w → IsTrue (are_met w expected)

-- the worst flaw of each run that leads to an end, whatever is claimed; or none
abbrev pub EndTold : ImageValue → World → List Expectation → Option RunFlaw → Type 0
EndTold image w expected None = IsFlawless image w expected
EndTold image w expected (Some told) =
    (ts : List Step) (claims : List Claim) → run image ts ≡ w → IsWorst image ts expected claims told
