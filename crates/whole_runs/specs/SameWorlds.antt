-- What is compared of two worlds.
use Rattle.std.specs.Prelude.{ℕ, List, [], slice_get, slice_index_or}
use Rattle.std.specs.Option.{option_to_list}
use Rattle.processor.specs.Processors.{ProcessorValue}
use Rattle.processor.specs.World.{World, steps}
use Rattle.processor.specs.declared.steps.Step.{Step}
use Rattle.machine.specs.MachineValue.{MachineValue}

-- a processor without a stream
abbrev pub no_processor : ProcessorValue
no_processor = record { streams = []; scur = 0; sres = 0 }

-- the processor of this number
abbrev pub processor_in : World → ℕ → ProcessorValue
processor_in w p = slice_index_or w.processors p no_processor

-- the machine after the step at a place of a schedule; as it is where the schedule has none there
abbrev pub machine_next : MachineValue → List Step → ℕ → MachineValue
machine_next m ts k = record m { world = steps m.image m.world (option_to_list (slice_get ts k)) }
