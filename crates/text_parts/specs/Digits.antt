-- Numbers as digits of a fixed width.
use Rattle.std.specs.Prelude.{ℕ, zero, suc, ◌/◌, ◌%◌, true, List, [], ◌∷◌, ◌++◌}
use Rattle.std.specs.Fmt.{digit_glyph}

-- the last digits of a number, so many, in a base of at most 16: upper case, the most significant first
unfoldable pub fixed_digits : ℕ → ℕ → ℕ → List ℕ
fixed_digits base zero number = []
fixed_digits base (suc count) number =
    fixed_digits base count (number / base) ++ digit_glyph true (number % base) ∷ []

-- a word of 64 bits
abbrev pub hexadecimal_16 : ℕ → List ℕ
hexadecimal_16 number = fixed_digits 16 16 number

-- the low 48 bits
abbrev pub hexadecimal_12 : ℕ → List ℕ
hexadecimal_12 number = fixed_digits 16 12 number

-- a number of 32 bits
abbrev pub hexadecimal_8 : ℕ → List ℕ
hexadecimal_8 number = fixed_digits 16 8 number

-- a number below 16
abbrev pub hexadecimal_digit : ℕ → List ℕ
hexadecimal_digit number = fixed_digits 16 1 number

-- a number below 100
abbrev pub two_digits : ℕ → List ℕ
two_digits number = fixed_digits 10 2 number

-- a number below 100,000
abbrev pub five_digits : ℕ → List ℕ
five_digits number = fixed_digits 10 5 number
