-- The law of .data: one full cell.
use Rattle.std.specs.Prelude.{◌≡◌, ◌≢◌, ◌↔◌, ℕ, List, ◌∷◌, ◌++◌, codes, Option, All}
use Rattle.std.specs.Str.{IsAscii}
use Rattle.text_parts.specs.Pieces.{pieces}
use Rattle.asm_line.specs.Text.{trim}
use Rattle.asm_line.specs.Lines.{Line, line}
use Rattle.asm_text.specs.Sources.{meaning_of_lines, meaning_of}

abbrev pub data_statement : List ℕ → List ℕ
data_statement value = codes ".data " ++ value

abbrev pub fill_statement : List ℕ → List ℕ
fill_statement value = codes ".fill 1, " ++ (value ++ codes ", 1")

-- The text of one operand: no blank at its ends, and no comma. It may be empty, or no number.
pub record IsOneOperand (value : List ℕ) : Type 0 where
  pub trimmed : trim value ≡ value
  pub no_comma : All (λ b. b ≢ 44) value

-- Lines mean the same image, or have the same fault, where one of them says `.fill 1, value, 1` in place of
-- `.data value`, under the same label or none.
abbrev pub DataLinesAreFills : Type 0
DataLinesAreFills = (before after : List Line) (label : Option (List ℕ)) (value : List ℕ) → IsOneOperand value
    → meaning_of_lines (before ++ record { label = label; statement = data_statement value } ∷ after)
    ≡ meaning_of_lines (before ++ record { label = label; statement = fill_statement value } ∷ after)

-- Two texts differ in one line, which says `.data value` in the one and `.fill 1, value, 1` in the other, under the
-- same label or none. Blanks and comments of that line may differ too, as long as both are ASCII or neither is.
pub record DifferByFill (text other value : List ℕ) : Type 0 where
  pub before : List (List ℕ)
  pub after : List (List ℕ)
  pub data_line : List ℕ
  pub fill_line : List ℕ
  pub text_lines : pieces 10 text ≡ before ++ data_line ∷ after
  pub other_lines : pieces 10 other ≡ before ++ fill_line ∷ after
  pub label : Option (List ℕ)
  pub data_reads : line data_line ≡ record { label = label; statement = data_statement value }
  pub fill_reads : line fill_line ≡ record { label = label; statement = fill_statement value }
  pub ascii : IsAscii data_line ↔ IsAscii fill_line

-- Such texts mean the same image, or have the same fault.
abbrev pub DataTextsAreFills : Type 0
DataTextsAreFills = (text other value : List ℕ) → IsOneOperand value → DifferByFill text other value
    → meaning_of text ≡ meaning_of other
