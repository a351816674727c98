-- Lines, where labels stand, and what a line adds.
use Rattle.std.specs.Prelude.{ℕ, ◌+◌, ◌==◌, ⊤, Bool, false, not, nat_lt, ◌&&◌, ◌||◌, if◌then◌else◌}
use Rattle.std.specs.Prelude.{List, [], ◌∷◌, length, slice_index, map, codes, Option, Some, None, Result, Ok, Err}
use Rattle.std.specs.Option.{option_map}
use Rattle.std.specs.List.{list_any}
use Rattle.std.specs.Str.{bytes_eq}
use Rattle.insn_word.specs.declared.profiles.Profile.{Profile}
use Rattle.asm_line.specs.Text.{trim, is_name, head, operands}
use Rattle.text_parts.specs.Pieces.{pieces, text_before, text_after}
use Rattle.asm_line.specs.Faults.{map_ok, ◌>>=◌, both}
use Rattle.asm_line.specs.Heads.{directive_of}
use Rattle.asm_line.specs.Operands.{Places}
use Rattle.asm_line.specs.Instructions.{instruction_of_text}
use Rattle.asm_line.specs.Directives.{item_of_directive}
use Rattle.asm_line.specs.declared.fault.Fault.{Fault}
use Rattle.asm_line.specs.declared.fault.Fault.TheVariants as fault
use Rattle.asm_line.specs.declared.item.Item.{Item}
use Rattle.asm_line.specs.declared.item.Item.TheVariants as item
use Rattle.asm_line.specs.declared.place.Place.{Place}

-- a line's label, which is what stands before its first colon, and its statement
pub record Line : Type 0 where
  pub label : Option (List ℕ)
  pub statement : List ℕ

-- a line, by what stands behind its first colon, if it has one
abbrev pub line_with_label : List ℕ → Option (List ℕ) → Line
line_with_label text None = record { label = None; statement = text }
line_with_label text (Some rest) = record { label = Some (text_before 58 text); statement = trim rest }

-- from the first semicolon on it is a comment
unfoldable pub line : List ℕ → Line
line bytes = let text = trim (text_before 59 bytes) in line_with_label text (text_after 58 text)

-- the lines of a text. A line end at the text's end leaves one more, which is empty and adds nothing.
abbrev pub lines : List ℕ → List Line
lines text = map line (pieces 10 text)

-- the lines of what is left of a text of which a line is cut off
abbrev pub rest_lines : Option (List ℕ) → List Line
rest_lines None = []
rest_lines (Some text) = lines text

-- a statement that is a word of the program: an instruction, or .word
unfoldable pub is_word : List ℕ → Bool
is_word statement =
    nat_lt 0 (length statement)
    && (not (slice_index statement 0 == 46) || bytes_eq (head statement) (codes ".word"))

-- 1 for a line that is a word of the program, else 0
abbrev pub word_count : Line → ℕ
word_count l = if is_word l.statement then 1 else 0

-- how many of the lines are words
abbrev pub count_words : List Line → ℕ
count_words [] = 0
count_words (l ∷ ls) = word_count l + count_words ls

-- whether a line's label is this name
abbrev pub stands : List ℕ → Option (List ℕ) → Bool
stands name None = false
stands name (Some label) = bytes_eq label name

-- the same place, seen from the line before
abbrev pub further : Line → Place → Place
further l p = record { line = p.line + 1; value = p.value + word_count l }

-- where a label stands first: its line, and the number of words before it
unfoldable pub place : List Line → List ℕ → Option Place
place [] name = None
place (l ∷ ls) name =
    if stands name l.label then Some (record { line = 0; value = 0 }) else option_map (further l) (place ls name)

-- whether a label stands on a line before line k
abbrev pub stands_earlier : ℕ → Option Place → Bool
stands_earlier k None = false
stands_earlier k (Some p) = nat_lt p.line k

-- a label is a name, and no second colon follows it
abbrev pub is_label : List ℕ → List ℕ → Bool
is_label name statement = is_name name && not (list_any (λ b. b == 58) statement)

-- whether the label of line k may stand there
unfoldable pub label_fault : Places → ℕ → Option (List ℕ) → List ℕ → Result ⊤ Fault
label_fault places k None statement = Ok tt
label_fault places k (Some name) statement =
    if is_label name statement then (if stands_earlier k (places name) then Err fault.LabelTwice else Ok tt)
    else Err fault.Unknown

-- what a directive adds
abbrev pub directive_item : Profile → Places → ℕ → List ℕ → Result Item Fault
directive_item p places words text =
    directive_of p (head text) >>= λ d. item_of_directive places words d (operands text)

-- a statement at the place here of the program, where there are so many words
unfoldable pub statement_item : Profile → Places → ℕ → ℕ → List ℕ → Result Item Fault
statement_item p places words here text =
    if length text == 0 then Ok item.Nothing
    else (if slice_index text 0 == 46 then directive_item p places words text
    else map_ok item.Instruction (instruction_of_text p places here text))

-- What line k (from 0) adds, behind so many words, or its least fault. The lines' labels stand at these places, and
-- the lines have so many words in all.
unfoldable pub line_item : Profile → Places → ℕ → ℕ → ℕ → Line → Result Item Fault
line_item p places words k here l =
    map_ok (λ v. v.1) (both (label_fault places k l.label l.statement) (statement_item p places words here l.statement))
