-- Source texts that mean the same image.
use Rattle.std.specs.Prelude.{◌≡◌, ℕ, List, Ok}
use Rattle.image_file.specs.ImageValue.{ImageValue}
use Rattle.asm_line.specs.Lines.{lines}
use Rattle.asm_text.specs.Sources.{meaning_of_lines}

-- The lines of two texts mean one image. What stands in comments does not matter.
pub record MeanOneImage (text other : List ℕ) : Type 0 where
  pub image : ImageValue
  pub means : meaning_of_lines (lines text) ≡ Ok image
  pub other_means : meaning_of_lines (lines other) ≡ Ok image
