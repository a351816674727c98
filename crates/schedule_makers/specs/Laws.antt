-- The laws of made schedules.
use Rattle.std.specs.Prelude.{◌≡◌, ◌%◌, ℕ, true, List, Some}
use Rattle.image_file.specs.ImageValue.{ImageValue}
use Rattle.processor.specs.World.{World}
use Rattle.processor.specs.declared.steps.Step.{Step}
use Rattle.machine.specs.MachineValue.{MachineValue}
use Rattle.schedule_makers.specs.Rules.{Rule}
use Rattle.schedule_makers.specs.Free.{is_free}
use Rattle.schedule_makers.specs.Seeds.{rule_of_seed}
use Rattle.schedule_makers.specs.Made.{IsMade}
use Rattle.schedule_makers.specs.declared.made.MadeEnd.{MadeEnd}

-- What a rule makes of a machine is one schedule, with one end, which leads to one machine.
abbrev pub IsOneMade : Type 0
IsOneMade =
    (rule : Rule) (old new other : MachineValue) (most : ℕ) (ts us : List Step) (end last : MadeEnd)
    → IsMade rule old new most ts end → IsMade rule old other most us last → (ts ≡ us) × (end ≡ last) × (new ≡ other)

-- A rule takes a step of a free stream wherever there is one.
abbrev pub TakesFree : Rule → Type 0
TakesFree rule =
    (before : List Step) (image : ImageValue) (w : World) (t u : Step) → rule before image w ≡ Some t
    → is_free image w u ≡ true → is_free image w t ≡ true

-- So does the rule of each seed that is not uniform.
abbrev pub SeedsTakeFree : Type 0
SeedsTakeFree = (seed fair_steps : ℕ) → ¬ (seed % 8 ≡ 0) → TakesFree (rule_of_seed seed fair_steps)
