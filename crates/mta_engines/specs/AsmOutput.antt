-- What the command `asm` writes for a source text.
use Rattle.std.specs.Prelude.{◌≤◌, ◌<◌, ℕ, List, length}
use Rattle.image_file.specs.ImageValue.{ImageValue}
use Rattle.image_file.specs.Spelling.{Stands}
use Rattle.asm_text.specs.Sources.{Means, HasFault}
use Rattle.mta_engines.specs.Input.{input_limit}
use Rattle.mta_engines.specs.declared.tool_fault.ToolFault.{ToolFault}
use Rattle.mta_engines.specs.declared.tool_fault.ToolFault.TheVariants.{Read, Write, TooLarge, NoMemory, Words}
use Rattle.mta_engines.specs.declared.tool_fault.ToolFault.TheVariants.{Asm, Image, Schedule, Build, Gather}

-- the bytes of the image that the text means
pub record IsAsmOutput (text output : List ℕ) : Type 0 where
  pub image : ImageValue
  pub within : length text ≤ input_limit
  pub means : Means text image
  pub stands : Stands output image

abbrev pub HasAsmFault : List ℕ → ToolFault → Type 0
HasAsmFault text TooLarge = input_limit < length text
HasAsmFault text (Asm fault) = (length text ≤ input_limit) × HasFault text fault
HasAsmFault text Read = ⊥
HasAsmFault text Write = ⊥
HasAsmFault text NoMemory = ⊥
HasAsmFault text (Words line) = ⊥
HasAsmFault text (Image fault) = ⊥
HasAsmFault text (Schedule fault) = ⊥
HasAsmFault text (Build fault) = ⊥
HasAsmFault text (Gather fault) = ⊥
