-- The lines of a source text that are words of its program. Lines count from 0.
use Rattle.std.specs.Prelude.{ℕ, ◌+◌, if◌then◌else◌, List, [], ◌∷◌}
use Rattle.text_parts.specs.Pieces.{pieces}
use Rattle.asm_line.specs.Lines.{line, is_word}

-- a line of a text: its number, and its bytes without its end
pub record LineValue : Type 0 where
  pub number : ℕ
  pub bytes : List ℕ

-- of lines of which the first has this number, those that are program words
abbrev pub program_lines_from : ℕ → List (List ℕ) → List LineValue
program_lines_from k [] = []
program_lines_from k (b ∷ bs) =
    if is_word (line b).statement then record { number = k; bytes = b } ∷ program_lines_from (k + 1) bs
    else program_lines_from (k + 1) bs

-- the line of each program word of a text, in their order
abbrev pub program_lines : List ℕ → List LineValue
program_lines text = program_lines_from 0 (pieces 10 text)
