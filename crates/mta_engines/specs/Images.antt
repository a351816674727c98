-- The image that the bytes of a reader are, or their fault.
use Rattle.std.specs.Prelude.{◌≡◌, ◌≤◌, ◌<◌, ℕ, List, length, Some}
use Rattle.image_file.specs.ImageValue.{ImageValue}
use Rattle.image_file.specs.Spelling.{Stands}
use Rattle.image_file.specs.Reading.{image_fault}
use Rattle.mta_engines.specs.Input.{input_limit}
use Rattle.mta_engines.specs.declared.tool_fault.ToolFault.{ToolFault}
use Rattle.mta_engines.specs.declared.tool_fault.ToolFault.TheVariants.{Read, Write, TooLarge, NoMemory, Words}
use Rattle.mta_engines.specs.declared.tool_fault.ToolFault.TheVariants.{Asm, Image, Schedule, Build, Gather}

-- they stand for the image
pub record IsImageOf (bytes : List ℕ) (i : ImageValue) : Type 0 where
  pub within : length bytes ≤ input_limit
  pub stands : Stands bytes i

-- they have the fault
abbrev pub HasImageFault : List ℕ → ToolFault → Type 0
HasImageFault bytes TooLarge = input_limit < length bytes
HasImageFault bytes (Image fault) = (length bytes ≤ input_limit) × (image_fault bytes ≡ Some fault)
HasImageFault bytes Read = ⊥
HasImageFault bytes Write = ⊥
HasImageFault bytes NoMemory = ⊥
HasImageFault bytes (Words line) = ⊥
HasImageFault bytes (Asm fault) = ⊥
HasImageFault bytes (Schedule fault) = ⊥
HasImageFault bytes (Build fault) = ⊥
HasImageFault bytes (Gather fault) = ⊥
