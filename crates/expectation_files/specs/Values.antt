-- What the words of a line say, whatever the program.
use Rattle.std.specs.Prelude.{ℕ, ◌-◌, ◌%◌, ◌^◌, ◌==◌, nat_lt, if◌then◌else◌, List, slice_index, drop, codes}
use Rattle.std.specs.Prelude.{Option, Some, None, Bool}
use Rattle.std.specs.Option.{option_map, option_and_then}
use Rattle.std.specs.Str.{bytes_eq}
use Rattle.text_parts.specs.Numbers.{up_to}
use Rattle.text_parts.specs.Pieces.{text_before, text_after}
use Rattle.text_parts.specs.Reading.{number_of_digits, number_of_text}
use Rattle.expectations.specs.declared.expectation.FullEmpty.{FullEmpty}
use Rattle.expectations.specs.declared.expectation.FullEmpty.TheVariants.{Full, Empty}
use Rattle.expectations.specs.declared.expectation.Relation.{Relation}
use Rattle.expectations.specs.declared.expectation.Relation.TheVariants.{Is, Above, Below, AboveSigned, BelowSigned}
use Rattle.processor.specs.declared.steps.Step.{Step}

-- a number of at most so much, decimal or with 0x
abbrev pub number_to : ℕ → List ℕ → Option ℕ
number_to most text = option_and_then (up_to most) (number_of_text text)

-- the same in decimal digits alone
abbrev pub decimal_to : ℕ → List ℕ → Option ℕ
decimal_to most text = option_and_then (up_to most) (number_of_digits 10 text)

abbrev pub stream_of_numbers : Option ℕ → Option ℕ → Option Step
stream_of_numbers None s = None
stream_of_numbers (Some p) None = None
stream_of_numbers (Some p) (Some s) = Some (record { p = p; s = s })

-- the processor, a point, the stream: numbers that some machine has
unfoldable pub stream_named : List ℕ → Option Step
stream_named text =
    stream_of_numbers (decimal_to 15 (text_before 46 text)) (option_and_then (decimal_to 127) (text_after 46 text))

-- r0 to r31
unfoldable pub register_named : List ℕ → Option ℕ
register_named text = if slice_index text 0 == 114 then decimal_to 31 (drop 1 text) else None

-- -n as the 64 bits of its two's complement
abbrev pub negative_word : ℕ → ℕ
negative_word n = (2 ^ 64 - n) % 2 ^ 64

-- a number from -2^63 to 2^64 - 1, as 64 bits
unfoldable pub value_named : List ℕ → Option ℕ
value_named text =
    if slice_index text 0 == 45 then option_map negative_word (number_to (2 ^ 63) (drop 1 text))
    else number_to (2 ^ 64 - 1) text

-- a count: decimal digits
abbrev pub count_named : List ℕ → Option ℕ
count_named text = decimal_to (2 ^ 64 - 1) text

-- a case has 1,000 points at most
abbrev pub points_named : List ℕ → Option ℕ
points_named text = decimal_to 1000 text

abbrev pub from_one : ℕ → Option ℕ
from_one n = if nat_lt 0 n then Some n else None

-- a trap's number
unfoldable pub trap_named : List ℕ → Option ℕ
trap_named text = option_and_then from_one (number_to 10 text)

unfoldable pub state_named : List ℕ → Option FullEmpty
state_named text =
    if bytes_eq text (codes "full") then Some Full
    else (if bytes_eq text (codes "empty") then Some Empty
    else None)

-- is, above or below; the last two perhaps of numbers with a sign
unfoldable pub relation_named : List ℕ → Bool → Option Relation
relation_named text signed =
    if bytes_eq text (codes "is") then (if signed then None else Some Is)
    else (if bytes_eq text (codes "above") then (if signed then Some AboveSigned else Some Above)
    else (if bytes_eq text (codes "below") then (if signed then Some BelowSigned else Some Below)
    else None))
