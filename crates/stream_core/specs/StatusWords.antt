-- The digits of status words, and how condition codes age.
use Rattle.std.specs.Prelude.{◌≡◌, ◌<◌, ℕ, ◌+◌, ◌*◌, ◌/◌, ◌%◌, ◌^◌, bit_and, false}
use Rattle.tag_memory.specs.Cell.{has_bit}
use Rattle.stream_core.specs.Arithmetic.{bit_number}
use Rattle.stream_core.specs.declared.conditions.Code.{Code}
use Rattle.stream_core.specs.declared.status_words.Codes.{Codes}
use Rattle.stream_core.specs.declared.status_words.TrapMask.{TrapMask}
use Rattle.stream_core.specs.declared.status_words.StatusWord.{StatusWord}

-- a code's four digits
abbrev pub code_number : Code → ℕ
code_number c = bit_number c.zero + 2 * bit_number c.negative + 4 * bit_number c.carry + 8 * bit_number c.overflow

-- the condition code in the lowest four bits of a number
abbrev pub code_from : ℕ → Code
code_from n = record { zero = has_bit n 0; negative = has_bit n 1; carry = has_bit n 2; overflow = has_bit n 3 }

-- four codes, the newest in the lowest digits
unfoldable pub codes_number : Codes → ℕ
codes_number c =
    code_number c.newest + code_number c.second * 2 ^ 4 + code_number c.third * 2 ^ 8 + code_number c.oldest * 2 ^ 12

-- the four condition codes in the lowest 16 bits of a number, the newest lowest
unfoldable pub codes_from : ℕ → Codes
codes_from n = record {
  newest = code_from n;
  second = code_from (n / 2 ^ 4);
  third = code_from (n / 2 ^ 8);
  oldest = code_from (n / 2 ^ 12);
}

-- the trap mask as a number of three bits
abbrev pub mask_number : TrapMask → ℕ
mask_number m = bit_number m.trap0 + 2 * bit_number m.trap1 + 4 * bit_number m.blocked

-- the trap mask in the lowest three bits of a number
abbrev pub mask_from : ℕ → TrapMask
mask_from n = record { trap0 = has_bit n 0; trap1 = has_bit n 1; blocked = has_bit n 2 }

-- a status word's 64 digits
unfoldable pub status_number : StatusWord → ℕ
status_number s = s.pc + codes_number s.codes * 2 ^ 32 + mask_number s.mask * 2 ^ 48 + bit_number s.in_trap * 2 ^ 56

-- the status word that digits say
unfoldable pub status_from : ℕ → StatusWord
status_from n = record {
  pc = n % 2 ^ 32;
  codes = codes_from (n / 2 ^ 32);
  mask = mask_from (n / 2 ^ 48);
  in_trap = has_bit n 56;
}

-- the digits that a status word may have
abbrev pub status_digits : ℕ
status_digits = 0x0107FFFFFFFFFFFF

-- a new code in front: the oldest one is lost
abbrev pub with_newest_code : Code → Codes → Codes
with_newest_code c cs = record { newest = c; second = cs.newest; third = cs.second; oldest = cs.third }

-- the word with no digit set but those of the pc
abbrev pub no_code : Code
no_code = record { zero = false; negative = false; carry = false; overflow = false }

-- four condition codes without a bit
abbrev pub no_codes : Codes
no_codes = record { newest = no_code; second = no_code; third = no_code; oldest = no_code }

-- the trap mask that masks nothing
abbrev pub no_mask : TrapMask
no_mask = record { trap0 = false; trap1 = false; blocked = false }

-- the status word at this pc, in which all else is zero
abbrev pub status_at : ℕ → StatusWord
status_at pc = record { pc = pc; codes = no_codes; mask = no_mask; in_trap = false }

-- A status word is read back from its digits.
abbrev pub IsKeptInDigits : Type 0
IsKeptInDigits = (s : StatusWord) → s.pc < 2 ^ 32 → status_from (status_number s) ≡ s

-- The digits of the status word that a number says are the number's own, those that a status word may have.
abbrev pub AreOwnDigits : Type 0
AreOwnDigits = (n : ℕ) → status_number (status_from n) ≡ bit_and n status_digits
