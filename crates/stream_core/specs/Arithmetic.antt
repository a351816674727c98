-- What the arithmetic operations compute, and the codes that they make.
use Rattle.std.specs.Prelude.{ℕ, ◌+◌, ◌-◌, ◌*◌, ◌/◌, ◌%◌, ◌^◌, ◌==◌, nat_lt, nat_le, Bool, false, not, if◌then◌else◌}
use Rattle.std.specs.Prelude.{int_lt, ℤ, pos, negsuc, ◌+ℤ◌, ◌-ℤ◌, ◌*ℤ◌, ◌≤ℤ◌, ◌<ℤ◌, bit_and, bit_or, bit_xor, count_ones}
use Rattle.std.specs.Int.{w64, cast_signed}
use Rattle.insn_word.specs.declared.operations.ArithmeticOp.{ArithmeticOp}
use Rattle.insn_word.specs.declared.operations.ArithmeticOp.TheVariants as op
use Rattle.stream_core.specs.declared.conditions.Code.{Code}

-- the number in two's complement
abbrev pub signed : ℕ → ℤ
signed n = cast_signed w64 n

-- whether a number of 64 digits can be it
abbrev pub fits_unsigned : ℕ → Bool
fits_unsigned n = nat_lt n (2 ^ 64)

-- whether a number is a signed one of 64 bits
abbrev pub fits_signed : ℤ → Bool
fits_signed (pos n) = nat_lt n (2 ^ 63)
fits_signed (negsuc n) = nat_lt n (2 ^ 63)

-- 64 bits, shifted to the left; 0 from 64 places on
abbrev pub shift_left : ℕ → ℕ → ℕ
shift_left a b = if nat_lt b 64 then a * 2 ^ b % 2 ^ 64 else 0

-- 64 bits, shifted to the right; 0 from 64 places on
abbrev pub shift_right : ℕ → ℕ → ℕ
shift_right a b = if nat_lt b 64 then a / 2 ^ b else 0

-- each digit the other one
abbrev pub ones_complement : ℕ → ℕ
ones_complement n = 2 ^ 64 - 1 - n

-- the sign comes in
abbrev pub shift_right_signed : ℕ → ℕ → ℕ
shift_right_signed a b =
    if nat_lt a (2 ^ 63) then shift_right a b else ones_complement (shift_right (ones_complement a) b)

-- the number that a bit is
abbrev pub bit_number : Bool → ℕ
bit_number b = if b then 1 else 0

-- what the operation makes of a and b
abbrev pub result_of : ArithmeticOp → ℕ → ℕ → ℕ
result_of op.Nop a b = 0
result_of op.Add a b = (a + b) % 2 ^ 64
result_of op.Sub a b = (a + (2 ^ 64 - b)) % 2 ^ 64
result_of op.Mul a b = a * b % 2 ^ 64
result_of op.And a b = bit_and a b
result_of op.Or a b = bit_or a b
result_of op.Xor a b = bit_xor a b
result_of op.AndNot a b = bit_and a (ones_complement b)
result_of op.ShiftLeft a b = shift_left a b
result_of op.ShiftRight a b = shift_right a b
result_of op.ShiftRightSigned a b = shift_right_signed a b
result_of op.Tally a b = count_ones a
result_of op.LessSigned a b = bit_number (int_lt (signed a) (signed b))
result_of op.LessUnsigned a b = bit_number (nat_lt a b)
result_of op.Pointer a b = b % 2 ^ 5 * 2 ^ 59 + a % 2 ^ 59

-- the bit C of each operation's code
abbrev pub carries : ArithmeticOp → ℕ → ℕ → Bool
carries op.Nop a b = false
carries op.Add a b = not (fits_unsigned (a + b))
carries op.Sub a b = nat_lt a b
carries op.Mul a b = not (fits_unsigned (a * b))
carries op.And a b = false
carries op.Or a b = false
carries op.Xor a b = false
carries op.AndNot a b = false
carries op.ShiftLeft a b = false
carries op.ShiftRight a b = false
carries op.ShiftRightSigned a b = false
carries op.Tally a b = false
carries op.LessSigned a b = false
carries op.LessUnsigned a b = false
carries op.Pointer a b = false

-- the bit V of each operation's code
abbrev pub overflows : ArithmeticOp → ℕ → ℕ → Bool
overflows op.Nop a b = false
overflows op.Add a b = not (fits_signed (signed a +ℤ signed b))
overflows op.Sub a b = not (fits_signed (signed a -ℤ signed b))
overflows op.Mul a b = not (fits_signed (signed a *ℤ signed b))
overflows op.And a b = false
overflows op.Or a b = false
overflows op.Xor a b = false
overflows op.AndNot a b = false
overflows op.ShiftLeft a b = false
overflows op.ShiftRight a b = false
overflows op.ShiftRightSigned a b = false
overflows op.Tally a b = false
overflows op.LessSigned a b = false
overflows op.LessUnsigned a b = false
overflows op.Pointer a b = false

-- the code that the operation makes
abbrev pub code_of : ArithmeticOp → ℕ → ℕ → Code
code_of op a b = record {
  zero = result_of op a b == 0;
  negative = nat_le (2 ^ 63) (result_of op a b);
  carry = carries op a b;
  overflow = overflows op a b;
}

-- how often d goes into x: q times, and not once more
abbrev pub IsQuotientRoundedDown : ℤ → ℕ → ℤ → Type 0
IsQuotientRoundedDown x d q = ((q *ℤ pos d) ≤ℤ x) × (x <ℤ ((q +ℤ pos 1) *ℤ pos d))
