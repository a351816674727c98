-- How long the fair run of a machine is, by which the rule of priorities measures.
use Rattle.std.specs.Prelude.{◌≡◌, ℕ, List, length}
use Rattle.processor.specs.declared.steps.Step.{Step}
use Rattle.machine.specs.MachineValue.{MachineValue}
use Rattle.schedule_makers.specs.Rules.{next_fair}
use Rattle.schedule_makers.specs.Made.{IsMade}
use Rattle.schedule_makers.specs.declared.made.MadeEnd.{MadeEnd}

-- so many of its steps count at most
abbrev pub most_fair_steps : ℕ
most_fair_steps = 10000

-- The schedule that is made fairly of a machine has so many steps.
pub record IsFairLength (m : MachineValue) (n : ℕ) : Type 0 where
  pub new : MachineValue
  pub schedule : List Step
  pub end : MadeEnd
  pub made : IsMade next_fair m new most_fair_steps schedule end
  pub is : n ≡ length schedule
