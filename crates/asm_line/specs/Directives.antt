-- What a directive says.
use Rattle.std.specs.Prelude.{ℕ, ◌-◌, ◌^◌, ◌==◌, nat_lt, if◌then◌else◌, List, [], ◌∷◌, Result, Ok, Err}
use Rattle.insn_word.specs.declared.profiles.Profile.{Profile}
use Rattle.insn_word.specs.declared.profiles.Profile.TheVariants as profile
use Rattle.asm_line.specs.Faults.{map_ok, ◌>>=◌, both}
use Rattle.asm_line.specs.Numbers.{number_within, count_within}
use Rattle.asm_line.specs.Operands.{Places}
use Rattle.asm_line.specs.Parts.{immediate}
use Rattle.asm_line.specs.declared.fault.Fault.{Fault}
use Rattle.asm_line.specs.declared.fault.Fault.TheVariants as fault
use Rattle.asm_line.specs.declared.item.Item.{Item}
use Rattle.asm_line.specs.declared.item.Item.TheVariants as item
use Rattle.asm_line.specs.declared.operation.Directive.{Directive}
use Rattle.asm_line.specs.declared.operation.Directive.TheVariants as directive

-- a word of 64 bits
unfoldable pub word_number : List ℕ → Result ℕ Fault
word_number text = number_within (2 ^ 64 - 1) text

-- the four tags, as a number
unfoldable pub tags_number : List ℕ → Result ℕ Fault
tags_number text = number_within 15 text

-- so many cells of one value and the same tags
abbrev pub cells : Result ℕ Fault → Result ℕ Fault → Result ℕ Fault → Result Item Fault
cells count value tags = map_ok (λ v. item.Cells v.0.0 v.0.1 v.1) (both (both count value) tags)

-- .data value[, tags]: one cell, which is full where no tags are given
abbrev pub data_cell : List (List ℕ) → Result Item Fault
data_cell (x ∷ []) = cells (Ok 1) (word_number x) (Ok 1)
data_cell (x ∷ y ∷ []) = cells (Ok 1) (word_number x) (tags_number y)
data_cell _ = Err fault.Operand

-- .fill count, value, tags
abbrev pub fill : List (List ℕ) → Result Item Fault
fill (x ∷ y ∷ z ∷ []) = cells (count_within 262144 x) (word_number y) (tags_number z)
fill _ = Err fault.Operand

-- below the number of words
abbrev pub below : ℕ → ℕ → Result ℕ Fault
below words n = if nat_lt n words then Ok n else Err fault.Range

-- an entry: the place of one of the words, as a number or label
unfoldable pub entry_number : Places → ℕ → List ℕ → Result ℕ Fault
entry_number places words text = immediate places text >>= below words

-- Directives of one operand.

-- of 1 and 2
abbrev pub profile_numbered : ℕ → Profile
profile_numbered n = if n == 2 then profile.Two else profile.One

-- the profile that the operand of .profile names by its number
unfoldable pub profile_read : List (List ℕ) → Result Profile Fault
profile_read (x ∷ []) = map_ok profile_numbered (count_within 2 x)
profile_read _ = Err fault.Operand

-- .profile number
abbrev pub profile_item : List (List ℕ) → Result Item Fault
profile_item ops = map_ok item.Profile (profile_read ops)

-- .slim number: the most streams of a processor
abbrev pub slim : List (List ℕ) → Result Item Fault
slim (x ∷ []) = map_ok item.Slim (count_within 128 x)
slim _ = Err fault.Operand

-- .chain number: how many words may forward one reference
abbrev pub chain : List (List ℕ) → Result Item Fault
chain (x ∷ []) = map_ok item.Chain (number_within 64 x)
chain _ = Err fault.Operand

-- .retry number: the retry limit
abbrev pub retry : List (List ℕ) → Result Item Fault
retry (x ∷ []) = map_ok item.Retry (number_within (2 ^ 32 - 1) x)
retry _ = Err fault.Operand

-- .trap number or label: the trap entry, with which each t0 begins
abbrev pub trap : Places → List (List ℕ) → Result Item Fault
trap places (x ∷ []) = map_ok item.Trap (immediate places x)
trap places _ = Err fault.Operand

-- words: how many instruction lines the text has
abbrev pub entry_item : Places → ℕ → List (List ℕ) → Result Item Fault
entry_item places words (x ∷ []) = map_ok item.Entry (entry_number places words x)
entry_item places words _ = Err fault.Operand

-- .word number: a program word, whatever it spells
abbrev pub word : List (List ℕ) → Result Item Fault
word (x ∷ []) = map_ok item.Word (word_number x)
word _ = Err fault.Operand

-- what each directive adds with its operands
unfoldable pub item_of_directive : Places → ℕ → Directive → List (List ℕ) → Result Item Fault
item_of_directive places words directive.Profile ops = profile_item ops
item_of_directive places words directive.Slim ops = slim ops
item_of_directive places words directive.Chain ops = chain ops
item_of_directive places words directive.Retry ops = retry ops
item_of_directive places words directive.Trap ops = trap places ops
item_of_directive places words directive.Entry ops = entry_item places words ops
item_of_directive places words directive.Word ops = word ops
item_of_directive places words directive.Data ops = data_cell ops
item_of_directive places words directive.Fill ops = fill ops
