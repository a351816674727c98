-- A number that is shifted right with its sign is a quotient rounded down.
use Rattle.std.proofs.Common.{◌≡◌, ℕ, zero, suc, ◌+◌, ◌-◌, ◌*◌, ◌/◌, ◌^◌, ◌<◌, ◌≤◌, pos, negsuc, neg_ℤ, ◌*ℤ◌, ◌+ℤ◌}
use Rattle.std.proofs.Common.{◌≤ℤ◌, ◌<ℤ◌, inl, inr, refl, sym, ◌∙◌, ap, subst, arith}
use Rattle.std.proofs.lemmas.Bool.{cases_lt, lt-ltb, le-ltb}
use Rattle.std.proofs.lemmas.Int.{ints}
use Rattle.std.proofs.lemmas.Nat.{pow_pos}
use Rattle.std.proofs.Math.Nat.{div-mul-le_self, div-le_self, lt-div-mul-add, suc-mul, zero-mul}
use Rattle.stream_core.specs.Arithmetic.{signed, ones_complement, shift_right_signed, IsQuotientRoundedDown}

-- The quotients of natural numbers and of negative ones.

quotient_pos : (n d k : ℕ) → k * d ≤ n → n < k * d + d → IsQuotientRoundedDown (pos n) d (pos k)
quotient_pos n d k low high =
    let more : (k + 1) * d ≡ k * d + d = grind arith in
    (omega (arith, ints), let below : n < (k + 1) * d = rw more high in omega (arith, ints))

one_more : (k : ℕ) → negsuc k +ℤ pos 1 ≡ neg_ℤ (pos k)
one_more k = omega (arith, ints)

neg-times : (k d : ℕ) → neg_ℤ (pos k) *ℤ pos d ≡ neg_ℤ (pos (k * d))
neg-times zero d = rw (zero-mul d) refl
neg-times (suc k) d = refl

quotient_neg : (n d k : ℕ) → k * d ≤ n → n < k * d + d → IsQuotientRoundedDown (negsuc n) d (negsuc k)
quotient_neg n d k low high =
    let less : n < suc k * d = rw (suc-mul k d) high in
    let above : negsuc n <ℤ neg_ℤ (pos (k * d)) = omega (arith, ints) in
    (omega (arith, ints), subst (λ z. negsuc n <ℤ z) (sym (ap (λ q. q *ℤ pos d) (one_more k) ∙ neg-times k d)) above)

-- What numbers of 64 digits are as signed ones.

signed_low : (n : ℕ) → n < 2 ^ 63 → signed n ≡ pos n
signed_low n h = rw (lt-ltb n (2 ^ 63) h) refl

signed_high : (n : ℕ) → n < 2 ^ 63 → signed (ones_complement n) ≡ negsuc n
signed_high n h =
    let far : 2 ^ 63 ≤ ones_complement n = omega arith in
    let back : 2 ^ 64 - suc (ones_complement n) ≡ n = omega arith in
    rw (le-ltb (ones_complement n) (2 ^ 63) far) (ap negsuc back)

-- a number with its highest digit set
signed_negative : (a : ℕ) → a < 2 ^ 64 → 2 ^ 63 ≤ a → signed a ≡ negsuc (ones_complement a)
signed_negative a h high =
    let twice : a ≡ ones_complement (ones_complement a) = omega arith in
    ap signed twice ∙ signed_high (ones_complement a) (omega arith)

-- Shifts by less than 64.

shifted_low : (a b : ℕ) → a < 2 ^ 63 → b < 64 → signed (shift_right_signed a b) ≡ pos (a / 2 ^ b)
shifted_low a b low h =
    let less : a / 2 ^ b ≤ a = div-le_self a (2 ^ b) in
    let made : shift_right_signed a b ≡ a / 2 ^ b = rw (lt-ltb a (2 ^ 63) low, lt-ltb b 64 h) refl in
    ap signed made ∙ signed_low (a / 2 ^ b) (omega arith)

shifted_high : (a b : ℕ) → 2 ^ 63 ≤ a → b < 64
    → signed (shift_right_signed a b) ≡ negsuc (ones_complement a / 2 ^ b)
shifted_high a b high h =
    let less : ones_complement a / 2 ^ b ≤ ones_complement a = div-le_self (ones_complement a) (2 ^ b) in
    let made : shift_right_signed a b ≡ ones_complement (ones_complement a / 2 ^ b) =
    rw (le-ltb a (2 ^ 63) high, lt-ltb b 64 h) refl in
    ap signed made ∙ signed_high (ones_complement a / 2 ^ b) (omega arith)

pub shifted_quotient : (a b : ℕ) → a < 2 ^ 64 → b < 64
    → IsQuotientRoundedDown (signed a) (2 ^ b) (signed (shift_right_signed a b))
shifted_quotient a b fits h =
    elim (cases_lt a (2 ^ 63)) [
      | inl low ↦
          subst (λ x. IsQuotientRoundedDown x (2 ^ b) (signed (shift_right_signed a b))) (sym (signed_low a low))
          (subst (λ q. IsQuotientRoundedDown (pos a) (2 ^ b) q) (sym (shifted_low a b low h))
          (quotient_pos a (2 ^ b) (a / 2 ^ b) (div-mul-le_self a (2 ^ b)) (lt-div-mul-add (pow_pos b))))
      | inr high ↦
          let n = ones_complement a in
          subst (λ x. IsQuotientRoundedDown x (2 ^ b) (signed (shift_right_signed a b)))
          (sym (signed_negative a fits high))
          (subst (λ q. IsQuotientRoundedDown (negsuc n) (2 ^ b) q) (sym (shifted_high a b high h))
          (quotient_neg n (2 ^ b) (n / 2 ^ b) (div-mul-le_self n (2 ^ b)) (lt-div-mul-add (pow_pos b))))
    ]

-- Shifts by 64 and more leave the sign alone.

pub shifted_zero : (a b : ℕ) → a < 2 ^ 64 → 64 ≤ b → pos 0 ≤ℤ signed a → signed (shift_right_signed a b) ≡ pos 0
shifted_zero a b fits h sign =
    elim (cases_lt a (2 ^ 63)) [
      | inl low ↦
          let made : shift_right_signed a b ≡ 0 = rw (lt-ltb a (2 ^ 63) low, le-ltb b 64 h) refl in ap signed made
      | inr high ↦
          let below : pos 0 ≤ℤ negsuc (ones_complement a) =
          subst (λ z. pos 0 ≤ℤ z) (signed_negative a fits high) sign in
          absurd (let none : ⊥ = omega (arith, ints) in none)
    ]

pub shifted_minus_one : (a b : ℕ) → a < 2 ^ 64 → 64 ≤ b → signed a <ℤ pos 0
    → signed (shift_right_signed a b) ≡ neg_ℤ (pos 1)
shifted_minus_one a b fits h sign =
    elim (cases_lt a (2 ^ 63)) [
      | inl low ↦
          let below : pos a <ℤ pos 0 = subst (λ z. z <ℤ pos 0) (signed_low a low) sign in
          absurd (let none : ⊥ = omega (arith, ints) in none)
      | inr high ↦
          let made : shift_right_signed a b ≡ ones_complement 0 =
          rw (le-ltb a (2 ^ 63) high, le-ltb b 64 h) refl in
          ap signed made
    ]
