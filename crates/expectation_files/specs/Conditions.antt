-- Conditions on runs.
use Rattle.std.specs.Prelude.{ℕ, List, Result}
use Rattle.processor.specs.declared.steps.Step.{Step}
use Rattle.claims.specs.declared.run_conditions.Fairness.{Fairness}
use Rattle.expectation_files.specs.ClaimLines.{ClaimFormValue}
use Rattle.expectation_files.specs.declared.faults.LineFault.{LineFault}

-- that one condition leads to another, on the runs that are fair so
pub record LeadsValue : Type 0 where
  pub from : ClaimFormValue
  pub to : ClaimFormValue
  pub fairness : Fairness

-- how many times at most a stream is overtaken while it waits
pub record OvertakingValue : Type 0 where
  pub who : Step
  pub waits : ClaimFormValue
  pub inside : ClaimFormValue
  pub most : ℕ

pub data ConditionValue : Type 0 where
  LeadsSo : LeadsValue → ConditionValue
  OvertakenSo : OvertakingValue → ConditionValue

-- where a stream may rest
pub record RestValue : Type 0 where
  pub who : Step
  pub places : ClaimFormValue

abbrev pub RestSaid : Type 0
RestSaid = Result RestValue LineFault

-- the conditions that a line says, or its fault
abbrev pub ConditionsSaid : Type 0
ConditionsSaid = Result (List ConditionValue) LineFault
