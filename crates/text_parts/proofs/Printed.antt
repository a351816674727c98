-- Digits of a fixed width: how many they are, and what stands in front of a small number.
use Rattle.std.proofs.Common.{◌≡◌, ℕ, zero, suc, ◌+◌, ◌-◌, ◌/◌, ◌%◌, ◌^◌, ◌<◌, true, List, [], ◌∷◌, ◌++◌, length}
use Rattle.std.proofs.Common.{replicate, refl, sym, ap, ◌∙◌, append_assoc, length-append, arith, ⊎_elim, pow-suc}
use Rattle.std.proofs.Math.Nat.{zero-div, zero-mod}
use Rattle.std.proofs.lemmas.Bool.{lt-ltb, cases_lt}
use Rattle.std.proofs.lemmas.Fmt.{decimal_digit, decimal_step}
use Rattle.std.proofs.lemmas.List.{replicate-append-replicate}
use Rattle.std.specs.Fmt.{digit_glyph, decimal}
use Rattle.text_parts.specs.Digits.{fixed_digits}
use Rattle.text_parts.specs.Laws.{ZerosInFront}

pub length-fixed_digits : (base count n : ℕ) → length (fixed_digits base count n) ≡ count
unfolding fixed_digits
length-fixed_digits base zero n = refl
length-fixed_digits base (suc k) n =
    omega (
      arith,
      length-fixed_digits base k (n / base),
      length-append (fixed_digits base k (n / base)) (digit_glyph true (n % base) ∷ []),
    )

fixed_digits-zero : (base count : ℕ) → 0 < base → fixed_digits base count 0 ≡ replicate count 48
unfolding fixed_digits
fixed_digits-zero base zero some = refl
fixed_digits-zero base (suc k) some =
    let front : 0 / base ≡ 0 = zero-div base in
    let last : 0 % base ≡ 0 = zero-mod base in
    rw (front, last, fixed_digits-zero base k some)
    (replicate-append-replicate k 1 48 ∙ ap (λ (m : ℕ). replicate m 48) {x = k + 1} {y = suc k} (omega arith))

digit_glyph-decimal : (d : ℕ) → d < 10 → digit_glyph true d ≡ 48 + d
digit_glyph-decimal d small = rw (lt-ltb d 10 small)

one_decimal_digit : (k n : ℕ) → n < 10
    → replicate (suc k - length (decimal n)) 48 ++ decimal n ≡ fixed_digits 10 (suc k) n
unfolding fixed_digits
one_decimal_digit k n small =
    let front : n / 10 ≡ 0 = omega arith in
    let last : n % 10 ≡ n = omega arith in
    let zeros : suc k - 1 ≡ k = omega arith in
    rw (
      decimal_digit n small,
      zeros,
      front,
      last,
      fixed_digits-zero 10 k (omega arith),
      digit_glyph-decimal n small,
    ) refl

-- a number of no more digits than the width, with zeros in front
zero_filled : (k n : ℕ) → n < 10 ^ suc k → n < 2 ^ 64
    → replicate (suc k - length (decimal n)) 48 ++ decimal n ≡ fixed_digits 10 (suc k) n
unfolding fixed_digits
zero_filled zero n small fits = one_decimal_digit zero n (omega arith)
zero_filled (suc k) n small fits = ⊎_elim
    (λ h. one_decimal_digit (suc k) n h)
    (λ h.
    let last = digit_glyph-decimal (n % 10) (omega arith) in
    let front = zero_filled k (n / 10) (omega (arith, pow-suc 10 (suc k))) (omega arith) in
    let zeros : suc (suc k) - length (decimal (n / 10) ++ (48 + n % 10) ∷ []) ≡ suc k - length (decimal (n / 10)) =
    omega (arith, length-append (decimal (n / 10)) ((48 + n % 10) ∷ [])) in
    rw (decimal_step n h fits, zeros, last)
    (sym (append_assoc (replicate (suc k - length (decimal (n / 10))) 48) (decimal (n / 10)) ((48 + n % 10) ∷ []))
    ∙ ap (λ (digits : List ℕ). digits ++ (48 + n % 10) ∷ []) front))
    (cases_lt n 10)

pub zeros_in_front : ZerosInFront
zeros_in_front zero n some small fits = absurd (omega (arith, some))
zeros_in_front (suc k) n some small fits = sym (zero_filled k n small fits)
