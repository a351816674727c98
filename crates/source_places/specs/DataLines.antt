-- The lines of a source text that add data words. Lines and data words count from 0.
use Rattle.std.specs.Prelude.{ℕ, ◌+◌, nat_lt, nat_le, if◌then◌else◌, List, [], ◌∷◌, ◌++◌, Result, Ok, Err}
use Rattle.insn_word.specs.declared.profiles.Profile.{Profile}
use Rattle.tag_memory.specs.Storage.{most_memory_words}
use Rattle.text_parts.specs.Pieces.{pieces}
use Rattle.asm_line.specs.Lines.{line, lines, line_item, place, count_words, word_count}
use Rattle.asm_line.specs.Operands.{Places}
use Rattle.asm_line.specs.Profiles.{profile_of}
use Rattle.asm_line.specs.declared.fault.Fault.{Fault}
use Rattle.asm_line.specs.declared.item.Item.{Item}
use Rattle.asm_line.specs.declared.item.Item.TheVariants as item

-- a line that adds data words: its number, its bytes without its end, the first data word that it adds, and how many
pub record DataLineValue : Type 0 where
  pub number : ℕ
  pub bytes : List ℕ
  pub first : ℕ
  pub count : ℕ

abbrev pub item_cells : Item → ℕ
item_cells item.Nothing = 0
item_cells (item.Profile p) = 0
item_cells (item.Slim n) = 0
item_cells (item.Chain n) = 0
item_cells (item.Retry n) = 0
item_cells (item.Trap n) = 0
item_cells (item.Entry n) = 0
item_cells (item.Instruction i) = 0
item_cells (item.Word w) = 0
item_cells (item.Cells count value tags) = count

-- how many data words a line adds behind so many; none where it has a fault, or where there would be too many
unfoldable pub cells_added : ℕ → Result Item Fault → ℕ
cells_added first (Err e) = 0
cells_added first (Ok i) = if nat_le (first + item_cells i) most_memory_words then item_cells i else 0

-- a line that adds so many, where it adds any
abbrev pub data_line : ℕ → List ℕ → ℕ → ℕ → List DataLineValue
data_line k b first count =
    if nat_lt 0 count then record { number = k; bytes = b; first = first; count = count } ∷ [] else []

-- how many data words line k of a text adds, where it has so many program words and data words before it
abbrev pub line_cells : Profile → Places → ℕ → ℕ → ℕ → ℕ → List ℕ → ℕ
line_cells p places words k here first b = cells_added first (line_item p places words k here (line b))

-- Of lines of which the first is line k, those that add data words. The text has this profile, its labels stand at
-- these places, and it has so many program words in all; so many of them, and so many data words, stand before the lines.
abbrev pub data_lines_from : Profile → Places → ℕ → ℕ → ℕ → ℕ → List (List ℕ) → List DataLineValue
data_lines_from p places words k here first [] = []
data_lines_from p places words k here first (b ∷ bs) =
    let count = line_cells p places words k here first b in
    data_line k b first count
    ++ data_lines_from p places words (k + 1) (here + word_count (line b)) (first + count) bs

-- the lines of a text that add data words, in their order
abbrev pub data_lines : List ℕ → List DataLineValue
data_lines text =
    let ls = lines text in data_lines_from (profile_of ls) (place ls) (count_words ls) 0 0 0 (pieces 10 text)
