-- A text with its comments in ASCII means what its lines mean.
use Rattle.std.proofs.Common.{◌≡◌, ℕ, List, Option, Some, None, Result, Ok, Err, sym, ◌∙◌, ap}
use Rattle.image_file.specs.ImageValue.{ImageValue}
use Rattle.asm_line.specs.Lines.{Line, lines}
use Rattle.asm_text.specs.Sources.{meaning_of, meaning_of_lines, meaning_unless, not_ascii, Means}

of_ascii : (o : Option ℕ) (ls : List Line) (i : ImageValue) → meaning_unless o ls ≡ Ok i → meaning_of_lines ls ≡ Ok i
of_ascii None ls i e = e
of_ascii (Some k) ls i e = absurd cc

pub means_by_lines : (ascii text : List ℕ) (i : ImageValue) → Means ascii i → lines ascii ≡ lines text
    → meaning_of_lines (lines text) ≡ Ok i
unfolding meaning_of
means_by_lines ascii text i means same =
    ap meaning_of_lines (sym same) ∙ of_ascii (not_ascii ascii) (lines ascii) i means
