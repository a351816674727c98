-- it is known what the steps so far leave, and where the world goes on one of them changes something
use Rattle.std.proofs.Common.{◌≡◌, ◌≢◌, true}
use Rattle.machine.specs.MachineValue.{MachineValue}
use Rattle.processor.specs.World.{after}
use Rattle.processor.specs.declared.steps.Step.{Step}
use Rattle.world_keys.specs.DeadRegisters.Clearing.{LiveValue}
use Rattle.world_keys.specs.Tables.{Extends}
use Rattle.schedule_space.specs.Before.{IsBefore}
use Rattle.schedule_space.proofs.key_streams.fate_by_key.Given as goal

abbrev pub invariant-loop-step : goal.invariant-loop-step
invariant-loop-step l = record {
  grown : Extends l.fn.seen.contents l.seen.contents;
  before :
      (live : LiveValue) (m : MachineValue) → IsBefore live l.fn.seen.contents l.fn.seen.steps m l.key
      → IsBefore live l.seen.contents l.seen.steps m l.key;
  moves :
      l.goes_on ≡ true → (live : LiveValue) (m : MachineValue)
      → IsBefore live l.fn.seen.contents l.fn.seen.steps m l.key
      → (t : Step) × (after m.image m.world t ≢ m.world);
}
