-- What a source text means, and where it has a fault.
use Rattle.std.specs.Prelude.{◌≡◌, ℕ, ◌+◌, ◌==◌, nat_le, if◌then◌else◌, List, [], ◌∷◌, length, take}
use Rattle.std.specs.Prelude.{Option, Some, None, Result, Ok, Err}
use Rattle.std.specs.List.{position, count_by}
use Rattle.image_file.specs.ImageValue.{ImageValue}
use Rattle.insn_word.specs.declared.profiles.Profile.{Profile}
use Rattle.asm_line.specs.Faults.{◌>>=◌}
use Rattle.asm_line.specs.Operands.{Places}
use Rattle.asm_line.specs.Lines.{Line, line_item, lines, place, count_words}
use Rattle.asm_line.specs.Profiles.{profile_of}
use Rattle.asm_line.specs.declared.fault.Fault.{Fault}
use Rattle.asm_line.specs.declared.fault.Fault.TheVariants as fault
use Rattle.asm_text.specs.declared.fault.AsmFault.{AsmFault}
use Rattle.asm_text.specs.Drafts.{DraftValue, empty, add, has_all, image_of_draft}

-- the draft with line k (from 0) of a text of this profile
unfoldable pub with_line : Profile → Places → ℕ → ℕ → DraftValue → Line → Result DraftValue Fault
with_line p places words k d l = line_item p places words k (length d.words) l >>= add d

-- what is made of the draft with line k, or that line's fault; a fault names its line from 1 on
abbrev pub after_line : Result DraftValue Fault → ℕ → (DraftValue → Result DraftValue AsmFault)
    → Result DraftValue AsmFault
after_line (Ok d) k f = f d
after_line (Err e) k f = Err (record { line = k + 1; kind = e })

-- the draft with these lines, of which the first is line k, or the least line with a fault and its least fault
abbrev pub with_lines : Profile → Places → ℕ → ℕ → DraftValue → List Line → Result DraftValue AsmFault
with_lines p places words k d [] = Ok d
with_lines p places words k d (l ∷ ls) =
    after_line (with_line p places words k d l) k (λ e. with_lines p places words (k + 1) e ls)

-- the line of the byte at a place
abbrev pub line_of : List ℕ → Option ℕ → Option ℕ
line_of text None = None
line_of text (Some i) = Some (count_by (λ b. b == 10) (take i text) + 1)

-- the least line with a byte of 80 (hexadecimal) or more
unfoldable pub not_ascii : List ℕ → Option ℕ
not_ascii text = line_of text (position (λ b. nat_le 128 b) text)

-- a text without an entry, a program word or a cell has a fault of no line
abbrev pub image_or_incomplete : Profile → DraftValue → Result ImageValue AsmFault
image_or_incomplete p d =
    if has_all d then Ok (image_of_draft p d) else Err (record { line = 0; kind = fault.Directive })

-- the image of the draft of all lines, or the fault of one
abbrev pub complete : Profile → Result DraftValue AsmFault → Result ImageValue AsmFault
complete p (Ok d) = image_or_incomplete p d
complete p (Err e) = Err e

-- A label's value and the profile are known on every line, whether they stand before or behind that line.
unfoldable pub meaning_of_lines : List Line → Result ImageValue AsmFault
meaning_of_lines ls = let p = profile_of ls in complete p (with_lines p (place ls) (count_words ls) 0 empty ls)

-- a text with a byte that is not ASCII has that fault, whatever its lines say
abbrev pub meaning_unless : Option ℕ → List Line → Result ImageValue AsmFault
meaning_unless (Some k) ls = Err (record { line = k; kind = fault.NotAscii })
meaning_unless None ls = meaning_of_lines ls

-- the image that a text means, or its fault
unfoldable pub meaning_of : List ℕ → Result ImageValue AsmFault
meaning_of text = meaning_unless (not_ascii text) (lines text)

-- A text means an image.
abbrev pub Means : List ℕ → ImageValue → Type 0
Means text i = meaning_of text ≡ Ok i

-- A text has a fault, and means nothing.
abbrev pub HasFault : List ℕ → AsmFault → Type 0
HasFault text e = meaning_of text ≡ Err e
