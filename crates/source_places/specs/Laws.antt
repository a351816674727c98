-- The law of program lines.
use Rattle.std.specs.Prelude.{◌≡◌, ◌↔◌, ℕ, true, List, take, map, slice_get, Some}
use Rattle.asm_line.specs.Lines.{line, is_word, count_words}
use Rattle.source_places.specs.ProgramLines.{LineValue, program_lines_from}

-- a line of these is a program word, and so many of them stand before it
pub record IsLineOfWord (bs : List (List ℕ)) (k : ℕ) (l : LineValue) : Type 0 where
  pub stands : slice_get bs l.number ≡ Some l.bytes
  pub word : is_word (line l.bytes).statement ≡ true
  pub before : count_words (map line (take l.number bs)) ≡ k

abbrev pub WordsStandOnTheirLines : Type 0
WordsStandOnTheirLines = (bs : List (List ℕ)) (k : ℕ) (l : LineValue)
    → slice_get (program_lines_from 0 bs) k ≡ Some l ↔ IsLineOfWord bs k l
