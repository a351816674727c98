-- What the run of a seed comes to.
use Rattle.std.specs.Prelude.{◌≡◌, ◌↔◌, ℕ, List, length, not, IsFalse}
use Rattle.std.specs.List.{position}
use Rattle.image_file.specs.ImageValue.{ImageValue}
use Rattle.processor.specs.declared.steps.Step.{Step}
use Rattle.machine.specs.MachineValue.{MachineValue}
use Rattle.schedule_makers.specs.Seeds.{rule_of_seed}
use Rattle.schedule_makers.specs.Made.{IsMade}
use Rattle.schedule_makers.specs.declared.made.MadeEnd.{MadeEnd}
use Rattle.space_ends.specs.EndStates.Judgements.{IsJudgedKind}
use Rattle.expectations.specs.Meeting.{is_met}
use Rattle.expectations.specs.declared.expectation.Expectation.{Expectation}
use Rattle.claims.specs.declared.claim.Claim.{Claim}
use Rattle.space_ends.specs.ScheduleVerdicts.RightEnds.{AreTrapsExpected}
use Rattle.space_ends.specs.SeedVerdicts.Seeds.{loaded}
use Rattle.space_ends.specs.FirstBroken.{IsBrokenClaim}
use Rattle.space_ends.specs.EndStates.EndStates.{IsEndState}
use Rattle.space_ends.specs.EndStatesTypes.EndJudgement.{EndJudgement}
use Rattle.space_ends.specs.EndStatesTypes.EndState.{EndState}
use Rattle.seed_outcomes.specs.declared.seed_runs.Surveyed.{Surveyed}

-- a program, what is expected of its ends, what is claimed of all its worlds, how many steps its fair run has, and the most
-- steps of a run
pub record SurveyedProgram : Type 0 where
  pub image : ImageValue
  pub expected : List Expectation
  pub claims : List Claim
  pub fair : ℕ
  pub most : ℕ

-- what a survey is of
abbrev pub surveyed_program : Surveyed → SurveyedProgram
surveyed_program s = record {
  image = s.image.now;
  expected = s.required.now.ends.items;
  claims = s.required.now.claims.items;
  fair = s.fair_steps;
  most = s.most;
}

-- The run by the schedule that is made by the rule of a seed has so many steps, is judged so, and shows this at its end.
pub record IsSeedRun (p : SurveyedProgram) (seed steps : ℕ) (j : EndJudgement) (shown : EndState) : Type 0 where
  pub machine : MachineValue
  pub schedule : List Step
  pub end : MadeEnd
  pub made : IsMade (rule_of_seed seed p.fair) (loaded p.image) machine p.most schedule end
  pub count : steps ≡ length schedule
  pub kind : IsJudgedKind machine.image p.expected machine.world j.kind
  pub missed : j.missed ≡ position (λ x. not (is_met machine.world x)) p.expected
  pub broken : IsBrokenClaim p.image schedule p.claims j.broken
  pub trapped : IsFalse j.is_trapped ↔ AreTrapsExpected p.expected machine.world
  pub state : IsEndState machine shown

-- The run of a seed is judged so and shows this, whatever its number of steps.
abbrev pub EndsSo : SurveyedProgram → EndJudgement → EndState → ℕ → Type 0
EndsSo p j shown seed = (steps : ℕ) × IsSeedRun p seed steps j shown
