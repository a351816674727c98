-- Numbers of any size as the code has them.
use Rattle.std.specs.Prelude.{ℕ, ◌^◌, nat_lt, nat_le, if◌then◌else◌, Option, Some, None}
use Rattle.text_parts.specs.declared.numbers.Base.{Base}
use Rattle.text_parts.specs.declared.numbers.Base.TheVariants.{Decimal, Hexadecimal}
use Rattle.text_parts.specs.declared.numbers.Number.{Number}
use Rattle.text_parts.specs.declared.numbers.Number.TheVariants.{Word, TooLarge}

abbrev pub base_number : Base → ℕ
base_number Decimal = 10
base_number Hexadecimal = 16

-- a number by its value
abbrev pub number_from : ℕ → Number
number_from value = if nat_lt value (2 ^ 64) then Word value else TooLarge

-- the value, where it is no more than a limit
abbrev pub up_to : ℕ → ℕ → Option ℕ
up_to limit value = if nat_le value limit then Some value else None
