-- A machine, as contracts see it: the image that it was loaded from, and its world.
use Rattle.std.specs.Prelude.{◌≡◌, ℕ, ◌≤◌, ◌<◌, List, length, slice_get, slice_index_or, Option, Some, None}
use Rattle.processor.specs.TagMemory.Storage.{TaggedMemory}
use Rattle.processor.specs.ImageFile.ImageValue.{ImageValue}
use Rattle.processor.specs.Processors.{ProcessorValue}
use Rattle.processor.specs.Row.{next_of}
use Rattle.processor.specs.World.{World}
use Rattle.processor.specs.declared.steps.Next.{Next}
use Rattle.processor.specs.declared.steps.Next.TheVariants as next
use Rattle.processor.specs.declared.steps.Step.{Step}

-- a machine: its image and its world
pub record MachineValue : Type 0 where
  pub image : ImageValue
  pub world : World

-- the machine of an image with these processors and this memory
abbrev pub machine_of : ImageValue → List ProcessorValue → TaggedMemory → MachineValue
machine_of image ps m = record { image = image; world = record { processors = ps; memory = m } }

-- A machine with room for so many streams a processor has a processor for each entry of its image, and each has as
-- many streams as the image says.
pub record IsMachine (size : ℕ) (m : MachineValue) : Type 0 where
  pub within : m.image.slim ≤ size
  pub one_each : length m.world.processors ≡ length m.image.entries
  pub slims : (k : ℕ) (d : ProcessorValue) → k < length m.world.processors
      → length (slice_index_or m.world.processors k d).streams ≡ m.image.slim

-- the same of a processor that may be missing
abbrev pub next_at : ImageValue → Option ProcessorValue → ℕ → Next
next_at image None s = next.Skip
next_at image (Some proc) s = next_of image proc s

-- what the next step of a stream needs; nothing where there is no such processor
abbrev pub next_in : MachineValue → Step → Next
next_in m t = next_at m.image (slice_get m.world.processors t.p) t.s
