-- The number that digits say.
use Rattle.std.specs.Prelude.{ℕ, List, length, drop, codes, nat_lt, nat_eq, ◌==◌, ◌&&◌, Bool, if◌then◌else◌}
use Rattle.std.specs.Prelude.{Option, Some, None}
use Rattle.std.specs.Char.{is_digit}
use Rattle.std.specs.List.{list_all, starts_with}
use Rattle.std.specs.Str.Parse.{digits_value}

-- 0 to 9, and in base 16 A to F and a to f
abbrev pub all_in_base : ℕ → List ℕ → Bool
all_in_base base digits = list_all (λ byte. is_digit byte base) digits

-- one digit or more, and nothing else
abbrev pub are_digits : ℕ → List ℕ → Bool
are_digits base digits = nat_lt 0 (length digits) && all_in_base base digits

-- digits of either case, the most significant first; None for every other text
unfoldable pub number_of_digits : ℕ → List ℕ → Option ℕ
number_of_digits base digits =
    if are_digits base digits then Some (digits_value base digits) else None

-- a number as text: decimal digits, or 0x and hexadecimal ones; None for every other text
unfoldable pub number_of_text : List ℕ → Option ℕ
number_of_text text =
    if starts_with nat_eq text (codes "0x") then number_of_digits 16 (drop 2 text) else number_of_digits 10 text

-- a word of 64 bits, which has exactly 16 digits
unfoldable pub hexadecimal_word : List ℕ → Option ℕ
hexadecimal_word digits = if length digits == 16 then number_of_digits 16 digits else None
