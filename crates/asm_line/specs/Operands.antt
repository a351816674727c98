-- What the text of an operand says.
use Rattle.std.specs.Prelude.{ℕ, ◌+◌, ◌-◌, ◌==◌, ℤ, pos, neg_ℤ, Bool, true, false, nat_lt, nat_le, ◌&&◌, ◌||◌}
use Rattle.std.specs.Prelude.{if◌then◌else◌, List, length, slice_index, drop, Option, Some, None, Result, Ok, Err}
use Rattle.std.specs.Str.Parse.{digits_value}
use Rattle.insn_word.specs.declared.operations.Condition.{Condition}
use Rattle.text_parts.specs.Reading.{are_digits}
use Rattle.asm_line.specs.Text.{is_name}
use Rattle.asm_line.specs.Faults.{map_ok, ◌>>=◌}
use Rattle.asm_line.specs.Numbers.{within, number_within, signed_within}
use Rattle.asm_line.specs.Heads.{condition_named}
use Rattle.asm_line.specs.declared.fault.Fault.{Fault}
use Rattle.asm_line.specs.declared.fault.Fault.TheVariants as fault
use Rattle.asm_line.specs.declared.operand.Source.{Source}
use Rattle.asm_line.specs.declared.operand.Source.TheVariants as source
use Rattle.asm_line.specs.declared.place.Place.{Place}

-- Registers.

-- the number behind the letter
abbrev pub number_after_letter : List ℕ → ℕ
number_after_letter text = digits_value 10 (drop 1 text)

-- r0 to r31, without leading zeros
abbrev pub is_register : List ℕ → Bool
is_register text =
    slice_index text 0 == 114 && (are_digits 10 (drop 1 text) && (nat_lt (number_after_letter text) 32
    && (length text == 2 || (length text == 3 && nat_lt 48 (slice_index text 1)))))

-- the number of the register that an operand names
unfoldable pub register : List ℕ → Result ℕ Fault
register text = if is_register text then Ok (number_after_letter text) else Err fault.Operand

-- t0 to t7
abbrev pub is_target : List ℕ → Bool
is_target text =
    slice_index text 0 == 116
    && (length text == 2 && (nat_le 48 (slice_index text 1) && nat_lt (slice_index text 1) 56))

-- the number of the target register that an operand names
unfoldable pub target : List ℕ → Result ℕ Fault
target text = if is_target text then Ok (slice_index text 1 - 48) else Err fault.Operand

-- Labels.

-- where labels stand
abbrev pub Places : Type 0
Places = List ℕ → Option Place

-- a label's value, which is the number of instruction lines before it
abbrev pub label_value : Option Place → Result ℕ Fault
label_value None = Err fault.LabelMissing
label_value (Some p) = Ok p.value

-- a number or the value of a label, of at most so much
unfoldable pub value_within : Places → ℕ → List ℕ → Result ℕ Fault
value_within places most text =
    if is_name text then label_value (places text) >>= within most else number_within most text

-- how many words v is behind the place after here, -128 to 127
unfoldable pub distance : ℕ → ℕ → Result ℤ Fault
distance here v =
    if nat_lt here v
    then (if nat_lt (v - here) 129 then Ok (pos (v - here - 1)) else Err fault.Range)
    else (if nat_lt (here - v) 128 then Ok (neg_ℤ (pos (here + 1 - v))) else Err fault.Range)

-- how far SKIP goes: a number from -128 to 127, or to a label
unfoldable pub offset : Places → ℕ → List ℕ → Result ℤ Fault
offset places here text =
    if is_name text then label_value (places text) >>= distance here else signed_within 128 127 text

-- Others.

-- how many words behind the pointer
abbrev pub displacement : List ℕ → Result ℤ Fault
displacement text = signed_within 32 31 text

-- a register, or a number to 31
unfoldable pub source_of : List ℕ → Result Source Fault
source_of text =
    if slice_index text 0 == 114 then map_ok source.Register (register text)
    else map_ok source.Number (number_within 31 text)

-- whether a source is a number, not a register
abbrev pub is_number : Source → Bool
is_number (source.Register n) = false
is_number (source.Number n) = true

-- the number that a source is, or that of its register
abbrev pub source_number : Source → ℕ
source_number (source.Register n) = n
source_number (source.Number n) = n

-- the condition that a table has; an operand that names none is a fault
abbrev pub condition_found : Option Condition → Result Condition Fault
condition_found None = Err fault.Operand
condition_found (Some c) = Ok c

-- the condition that an operand names
unfoldable pub condition : List ℕ → Result Condition Fault
condition text = condition_found (condition_named text)
