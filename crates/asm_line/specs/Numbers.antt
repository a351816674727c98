-- Numbers.
use Rattle.std.specs.Prelude.{ℕ, ◌==◌, ℤ, pos, neg_ℤ, Bool, nat_lt, nat_le, if◌then◌else◌}
use Rattle.std.specs.Prelude.{List, slice_index, drop, Result, Ok, Err}
use Rattle.std.specs.Option.{ok_or}
use Rattle.text_parts.specs.Reading.{number_of_text}
use Rattle.asm_line.specs.Faults.{map_ok, ◌>>=◌}
use Rattle.asm_line.specs.declared.fault.Fault.{Fault}
use Rattle.asm_line.specs.declared.fault.Fault.TheVariants as fault

-- a number of at most so much; a greater one is out of range
abbrev pub within : ℕ → ℕ → Result ℕ Fault
within most n = if nat_le n most then Ok n else Err fault.Range

-- a number of at most so much; a text that is no number is no operand
unfoldable pub number_within : ℕ → List ℕ → Result ℕ Fault
number_within most text = ok_or (number_of_text text) fault.Operand >>= within most

-- from 1 on
abbrev pub at_least_one : ℕ → Result ℕ Fault
at_least_one n = if nat_lt 0 n then Ok n else Err fault.Range

-- a number from 1 to so much
unfoldable pub count_within : ℕ → List ℕ → Result ℕ Fault
count_within most text = number_within most text >>= at_least_one

-- whether a text begins with a minus sign
abbrev pub has_minus : List ℕ → Bool
has_minus text = slice_index text 0 == 45

-- a number from -least to most
unfoldable pub signed_within : ℕ → ℕ → List ℕ → Result ℤ Fault
signed_within least most text =
    if has_minus text then map_ok (λ n. neg_ℤ (pos n)) (number_within least (drop 1 text))
    else map_ok pos (number_within most text)
