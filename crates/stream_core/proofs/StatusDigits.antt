-- Status words and their digits say each other.
use Rattle.std.proofs.Common.{◌≡◌, ℕ, ◌+◌, ◌-◌, ◌*◌, ◌/◌, ◌%◌, ◌^◌, ◌<◌, ◌≤◌, ◌==◌, Bool, true, false, bit_and, sym}
use Rattle.std.proofs.Common.{◌∙◌, ap, arith}
use Rattle.std.proofs.lemmas.Nat.{and_block, and_mask}
use Rattle.stream_core.specs.Arithmetic.{bit_number}
use Rattle.stream_core.specs.StatusWords.{code_number, code_from, codes_number, codes_from, mask_number, mask_from}
use Rattle.stream_core.specs.StatusWords.{status_number, status_from, status_digits, IsKeptInDigits, AreOwnDigits}
use Rattle.stream_core.specs.declared.conditions.Code.{Code}
use Rattle.stream_core.specs.declared.status_words.Codes.{Codes}
use Rattle.stream_core.specs.declared.status_words.TrapMask.{TrapMask}

flag_is : (b : Bool) (m : ℕ) → m ≡ bit_number b → (m == 1) ≡ b
flag_is true m e = ap (λ n. n == 1) e
flag_is false m e = ap (λ n. n == 1) e

flag_small : (b : Bool) → bit_number b ≤ 1
flag_small true = omega arith
flag_small false = omega arith

code_small : (c : Code) → code_number c < 16
code_small c = omega (arith, flag_small c.zero, flag_small c.negative, flag_small c.carry, flag_small c.overflow)

mask_small : (m : TrapMask) → mask_number m < 8
mask_small m = omega (arith, flag_small m.trap0, flag_small m.trap1, flag_small m.blocked)

codes_small : (c : Codes) → codes_number c < 65536
unfolding codes_number
codes_small c = omega (arith, code_small c.newest, code_small c.second, code_small c.third, code_small c.oldest)

-- From a word to its digits and back.

four_digits : (m z n c v x : ℕ) → z ≤ 1 → n ≤ 1 → c ≤ 1 → v ≤ 1 → m ≡ z + 2 * n + 4 * c + 8 * v + 16 * x
    → (m / 2 ^ 0 % 2 ≡ z) × (m / 2 ^ 1 % 2 ≡ n) × (m / 2 ^ 2 % 2 ≡ c) × (m / 2 ^ 3 % 2 ≡ v)
four_digits m z n c v x hz hn hc hv e = (omega arith, omega arith, omega arith, omega arith)

code_kept : (m : ℕ) (c : Code) (x : ℕ) → m ≡ code_number c + 16 * x → code_from m ≡ c
code_kept m c x e =
    let d =
    four_digits m (bit_number c.zero) (bit_number c.negative) (bit_number c.carry) (bit_number c.overflow) x
    (flag_small c.zero) (flag_small c.negative) (flag_small c.carry) (flag_small c.overflow) e in
    λ i. record {
      zero = flag_is c.zero _ d.0 i;
      negative = flag_is c.negative _ d.1 i;
      carry = flag_is c.carry _ d.2 i;
      overflow = flag_is c.overflow _ d.3 i;
    }

codes_kept : (m : ℕ) (c : Codes) (x : ℕ) → m ≡ codes_number c + 65536 * x → codes_from m ≡ c
unfolding codes_number codes_from
codes_kept m c x e =
    let newest = code_number c.newest in
    let second = code_number c.second in
    let third = code_number c.third in
    let oldest = code_number c.oldest in
    let a : newest < 16 = code_small c.newest in
    let b : second < 16 = code_small c.second in
    let d : third < 16 = code_small c.third in
    let first : m ≡ newest + 16 * (second + 16 * third + 256 * oldest + 4096 * x) = omega arith in
    let next : m / 2 ^ 4 ≡ second + 16 * (third + 16 * oldest + 256 * x) = omega arith in
    let after : m / 2 ^ 8 ≡ third + 16 * (oldest + 16 * x) = omega arith in
    let last : m / 2 ^ 12 ≡ oldest + 16 * x = omega arith in
    λ i. record {
      newest = code_kept m c.newest (second + 16 * third + 256 * oldest + 4096 * x) first i;
      second = code_kept (m / 2 ^ 4) c.second (third + 16 * oldest + 256 * x) next i;
      third = code_kept (m / 2 ^ 8) c.third (oldest + 16 * x) after i;
      oldest = code_kept (m / 2 ^ 12) c.oldest x last i;
    }

mask_kept : (m : ℕ) (k : TrapMask) (x : ℕ) → m ≡ mask_number k + 8 * x → mask_from m ≡ k
mask_kept m k x e =
    let a : bit_number k.trap0 ≤ 1 = flag_small k.trap0 in
    let b : bit_number k.trap1 ≤ 1 = flag_small k.trap1 in
    let d : bit_number k.blocked ≤ 1 = flag_small k.blocked in
    let first : m / 2 ^ 0 % 2 ≡ bit_number k.trap0 = omega arith in
    let second : m / 2 ^ 1 % 2 ≡ bit_number k.trap1 = omega arith in
    let third : m / 2 ^ 2 % 2 ≡ bit_number k.blocked = omega arith in
    λ i. record {
      trap0 = flag_is k.trap0 _ first i;
      trap1 = flag_is k.trap1 _ second i;
      blocked = flag_is k.blocked _ third i;
    }

pub status_kept : IsKeptInDigits
unfolding status_number status_from
status_kept s small =
    let n = s.pc + codes_number s.codes * 2 ^ 32 + mask_number s.mask * 2 ^ 48 + bit_number s.in_trap * 2 ^ 56 in
    let a : codes_number s.codes < 65536 = codes_small s.codes in
    let b : mask_number s.mask < 8 = mask_small s.mask in
    let d : bit_number s.in_trap ≤ 1 = flag_small s.in_trap in
    let pc : n % 2 ^ 32 ≡ s.pc = omega arith in
    let codes : n / 2 ^ 32 ≡ codes_number s.codes + 65536 * (mask_number s.mask + 256 * bit_number s.in_trap) =
    omega arith in
    let mask : n / 2 ^ 48 ≡ mask_number s.mask + 8 * (32 * bit_number s.in_trap) = omega arith in
    let in_trap : n / 2 ^ 56 % 2 ≡ bit_number s.in_trap = omega arith in
    λ i. record {
      pc = pc i;
      codes = codes_kept (n / 2 ^ 32) s.codes (mask_number s.mask + 256 * bit_number s.in_trap) codes i;
      mask = mask_kept (n / 2 ^ 48) s.mask (32 * bit_number s.in_trap) mask i;
      in_trap = flag_is s.in_trap _ in_trap i;
    }

-- From digits to a word and back.

digit_of : (m : ℕ) → m ≤ 1 → bit_number (m == 1) ≡ m
digit_of m h = grind arith

has_digit : (m k : ℕ) → bit_number (m / 2 ^ k % 2 == 1) ≡ m / 2 ^ k % 2
has_digit m k = digit_of (m / 2 ^ k % 2) (omega arith)

code_digits : (m : ℕ) → code_number (code_from m) ≡ m % 16
code_digits m = rw (has_digit m 0, has_digit m 1, has_digit m 2, has_digit m 3) (omega arith)

codes_digits : (m : ℕ) → codes_number (codes_from m) ≡ m % 65536
unfolding codes_number codes_from
codes_digits m =
    rw (code_digits m, code_digits (m / 2 ^ 4), code_digits (m / 2 ^ 8), code_digits (m / 2 ^ 12)) (omega arith)

mask_digits : (m : ℕ) → mask_number (mask_from m) ≡ m % 8
mask_digits m = rw (has_digit m 0, has_digit m 1, has_digit m 2) (omega arith)

and_digits : (n : ℕ) → bit_and n status_digits ≡ n % 2 ^ 51 + n / 2 ^ 56 % 2 * 2 ^ 56
and_digits n =
    let low = n % 2 ^ 51 in let high = n / 2 ^ 51 in
    let split : n ≡ high * 2 ^ 51 + low = omega arith in
    let cut = and_block 51 high 32 low (2 ^ 51 - 1) (omega arith) (omega arith) in
    let whole : bit_and low (2 ^ 51 - 1) ≡ low = and_mask low 51 ∙ (let e : low % 2 ^ 51 ≡ low = omega arith in e) in
    let cut_high : bit_and (high / 32 * 2 ^ 5 + high % 32) (1 * 2 ^ 5 + 0)
    ≡ bit_and (high / 32) 1 * 2 ^ 5 + bit_and (high % 32) 0 =
    and_block 5 (high / 32) 1 (high % 32) 0 (omega arith) (omega arith) in
    let split_high : high ≡ high / 32 * 2 ^ 5 + high % 32 = omega arith in
    let one : bit_and (high / 32) 1 ≡ high / 32 % 2 = and_mask (high / 32) 1 in
    let none : bit_and (high % 32) 0 ≡ high % 32 % 1 = and_mask (high % 32) 0 in
    let middle : bit_and high 32 ≡ high / 32 % 2 * 32 = ap (λ m. bit_and m 32) split_high ∙ cut_high
    ∙ (let e : bit_and (high / 32) 1 * 2 ^ 5 + bit_and (high % 32) 0 ≡ high / 32 % 2 * 32 = omega arith in e) in
    ap (λ m. bit_and m status_digits) split ∙ cut
    ∙ (let e : bit_and high 32 * 2 ^ 51 + bit_and low (2 ^ 51 - 1) ≡ low + n / 2 ^ 56 % 2 * 2 ^ 56 = omega arith in e)

pub status_own : AreOwnDigits
unfolding status_number status_from
status_own n =
    let codes : codes_number (codes_from (n / 2 ^ 32)) ≡ n / 2 ^ 32 % 65536 = codes_digits (n / 2 ^ 32) in
    let mask : mask_number (mask_from (n / 2 ^ 48)) ≡ n / 2 ^ 48 % 8 = mask_digits (n / 2 ^ 48) in
    let in_trap : bit_number (n / 2 ^ 56 % 2 == 1) ≡ n / 2 ^ 56 % 2 = has_digit n 56 in
    let sum : n % 2 ^ 32 + codes_number (codes_from (n / 2 ^ 32)) * 2 ^ 32
    + mask_number (mask_from (n / 2 ^ 48)) * 2 ^ 48 + bit_number (n / 2 ^ 56 % 2 == 1) * 2 ^ 56
    ≡ n % 2 ^ 51 + n / 2 ^ 56 % 2 * 2 ^ 56 = omega arith in
    sum ∙ sym (and_digits n)
