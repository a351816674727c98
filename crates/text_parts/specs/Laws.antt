-- What is printed is read back.
use Rattle.std.specs.Prelude.{◌≡◌, ℕ, ◌-◌, ◌%◌, ◌^◌, ◌<◌, ◌≤◌, ◌==◌, if◌then◌else◌, List, [], ◌∷◌, ◌++◌, length}
use Rattle.std.specs.Prelude.{replicate, Some, IfSome}
use Rattle.std.specs.Fmt.{decimal}
use Rattle.text_parts.specs.Columns.{right_aligned}
use Rattle.text_parts.specs.Digits.{fixed_digits, hexadecimal_16}
use Rattle.text_parts.specs.Reading.{number_of_digits, hexadecimal_word}

-- what is printed of a word is read as that word
abbrev pub HexadecimalReadsBack : Type 0
HexadecimalReadsBack = (number : ℕ) → number < 2 ^ 64 → hexadecimal_word (hexadecimal_16 number) ≡ Some number

-- no text is read as more than 64 bits
abbrev pub FitsWord : Type 0
FitsWord = (digits : List ℕ) → IfSome (hexadecimal_word digits) (λ number. number < 2 ^ 64)

-- digits of a fixed width are so many
abbrev pub FixedWidth : Type 0
FixedWidth = (base count number : ℕ) → length (fixed_digits base count number) ≡ count

-- and they are read as the rest of the number by that power of the base: the number itself, where it is smaller
abbrev pub DigitsReadBack : Type 0
DigitsReadBack = (base count number : ℕ) → 0 < base → base ≤ 16 → 0 < count
    → number_of_digits base (fixed_digits base count number) ≡ Some (number % base ^ count)

-- what `{}` prints
abbrev pub DecimalReadsBack : Type 0
DecimalReadsBack = (number : ℕ) → number < 2 ^ 64 → number_of_digits 10 (decimal number) ≡ Some number

-- decimal digits of a fixed width are the same with zeros in front
abbrev pub ZerosInFront : Type 0
ZerosInFront = (count number : ℕ) → 0 < count → number < 10 ^ count → number < 2 ^ 64
    → fixed_digits 10 count number ≡ replicate (count - length (decimal number)) 48 ++ decimal number

-- the text from its first byte on that is no blank
unfoldable pub without_blanks : List ℕ → List ℕ
without_blanks [] = []
without_blanks (byte ∷ bytes) = if byte == 32 then without_blanks bytes else byte ∷ bytes

-- what is printed in a column
abbrev pub AlignedReadsBack : Type 0
AlignedReadsBack = (width number : ℕ) → number < 2 ^ 64
    → number_of_digits 10 (without_blanks (right_aligned width number)) ≡ Some number

-- a number that the column suffices for fills it
abbrev pub AlignedWidth : Type 0
AlignedWidth = (width number : ℕ) → 0 < width → number < 10 ^ width → number < 2 ^ 64
    → length (right_aligned width number) ≡ width
