-- What is known of a world before a step, and of what the step left.
use Rattle.std.specs.Prelude.{◌≡◌, List, ℕ, IsTrue}
use Rattle.machine.specs.MachineValue.{MachineValue}
use Rattle.processor.specs.World.{after}
use Rattle.processor.specs.declared.steps.Step.{Step}
use Rattle.agreeing_ends.specs.SameFutures.Links.{TellsHandlers}
use Rattle.agreeing_ends.specs.SameFutures.Handlers.{may_have_handlers}
use Rattle.world_keys.specs.DeadRegisters.Clearing.{LiveValue, cleared_processor, cleared, IsLive}
use Rattle.world_keys.specs.WorldKeys.{processor_in, key_of, IsKnown}
use Rattle.schedule_space.specs.declared.known_steps.Places.{Places}
use Rattle.schedule_space.specs.declared.known_steps.StepsSeen.{StepsSeen}
use Rattle.schedule_space.specs.KnownSteps.{IsAt}
use Rattle.schedule_space.specs.StreamSteps.{AreAllLeft}

-- The key is that of the machine's world, cleared, by a table that has what is in it, and steps left what is said of them.
pub record IsBefore (live : LiveValue) (table : List (List ℕ)) (steps : StepsSeen) (m : MachineValue) (key : List ℕ)
    : Type 0 where
  pub is_live : IsLive m.image live
  pub told : TellsHandlers (IsTrue (may_have_handlers m.image)) m.world
  pub known : IsKnown table m.image (cleared live m.world)
  pub is_key : key ≡ key_of table m.image (cleared live m.world)
  pub left : AreAllLeft m.image live table steps

-- what the step of the machine leaves, cleared, is at these places
abbrev pub IsBehind : LiveValue → List (List ℕ) → MachineValue → Step → Places → Type 0
IsBehind live table m t l =
    IsAt m.image table (cleared_processor live (processor_in (after m.image m.world t) t.p))
    (after m.image m.world t).memory l
