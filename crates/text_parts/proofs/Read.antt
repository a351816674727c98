-- Digits are read as their number.
use Rattle.std.proofs.Common.{◌≡◌, IfSome, take, get_or, ℕ, suc, Some, None, eqb, lt-ltb, le-ltb, eq-eqb}
use Rattle.std.proofs.Common.{ne_eqb, ⊎_elim, true≢false, ◌+◌, ◌^◌, ◌<◌, ◌≤◌, true, false, Bool, List, []}
use Rattle.std.proofs.Common.{◌∷◌, length, refl, sym, ap, ◌∙◌, arith}
use Rattle.std.proofs.Math.Nat.{pow-le-pow_right}
use Rattle.std.proofs.lemmas.Bool.Decides.{eqb_tells, leb_tells}
use Rattle.std.proofs.lemmas.Int.Digits.{digits_value-lt}
use Rattle.std.proofs.lemmas.List.Folds.{list_all_more, list_all_at}
use Rattle.std.proofs.lemmas.List.{length-take-le}
use Rattle.std.specs.Char.{digit_value}
use Rattle.std.specs.Str.Parse.{digits_value, AllDigits}
use Rattle.text_parts.specs.Laws.{FitsWord}
use Rattle.text_parts.specs.Reading.{all_in_base, number_of_digits, hexadecimal_word}

-- one digit or more is read as its number
pub number_from_digits : (base : ℕ) (digits : List ℕ) → 0 < length digits → all_in_base base digits ≡ true
    → number_of_digits base digits ≡ Some (digits_value base digits)
unfolding number_of_digits
number_from_digits base digits some all = let e = lt-ltb 0 (length digits) some in rw (e, all)

-- no digit is no number
pub no_number_from_none : (base : ℕ) (digits : List ℕ) → length digits ≡ 0 → number_of_digits base digits ≡ None
unfolding number_of_digits
no_number_from_none base digits none = rw none

-- a text with another byte than a digit is no number
no_number_from_byte : (base : ℕ) (digits : List ℕ) → all_in_base base digits ≡ false
    → number_of_digits base digits ≡ None
unfolding number_of_digits
no_number_from_byte base digits e = ⊎_elim (λ h. rw (h.0, e)) (λ h. rw h.0) (leb_tells 1 (length digits))

pub no_number_at : (base : ℕ) (digits : List ℕ) (index : ℕ) → index < length digits
    → (digit_value (get_or digits index 0) < base → ⊥) → number_of_digits base digits ≡ None
no_number_at base digits index lt other =
    no_number_from_byte base digits (list_all_at _ digits index 0 lt
    (le-ltb (digit_value (get_or digits index 0)) base (omega (arith, other))))

-- 16 digits are read as their number
pub word_from_digits : (digits : List ℕ) → length digits ≡ 16 → all_in_base 16 digits ≡ true
    → hexadecimal_word digits ≡ Some (digits_value 16 digits)
unfolding hexadecimal_word
word_from_digits digits n all =
    let e : eqb (length digits) 16 ≡ true = eq-eqb _ 16 n in rw e (number_from_digits 16 digits (omega arith) all)

-- another number of digits is no word
pub no_word_from_length : (digits : List ℕ) → (length digits ≡ 16 → ⊥) → hexadecimal_word digits ≡ None
unfolding hexadecimal_word
no_word_from_length digits n = let e : eqb (length digits) 16 ≡ false = ne_eqb _ 16 n in rw e

-- nor is what is no number
no_word_from_number : (digits : List ℕ) → number_of_digits 16 digits ≡ None → hexadecimal_word digits ≡ None
unfolding hexadecimal_word
no_word_from_number digits e = ⊎_elim (λ h. rw (h.0, e)) (λ h. rw h.0) (eqb_tells (length digits) 16)

pub no_word_at : (digits : List ℕ) (index : ℕ) → index < length digits
    → (digit_value (get_or digits index 0) < 16 → ⊥)
    → hexadecimal_word digits ≡ None
no_word_at digits index lt other = no_word_from_number digits (no_number_at 16 digits index lt other)

all_digits : (base : ℕ) (digits : List ℕ) → all_in_base base digits ≡ true → AllDigits base digits
all_digits base [] all = tt
all_digits base (c ∷ cs) all = ⊎_elim
    (λ h. (omega (arith, h.1), all_digits base cs (rw h.0 at all)))
    (λ h. absurd (true≢false (sym (rw h.0 at all))))
    (leb_tells (suc (digit_value c)) base)

-- so many digits say a number below that power of 16
number_below : (digits : List ℕ) → all_in_base 16 digits ≡ true → digits_value 16 digits < 16 ^ length digits
number_below digits all = digits_value-lt 16 digits (all_digits 16 digits all)

pub fits_word : FitsWord
fits_word digits = ⊎_elim
    (λ h. by_bytes h.1 (all_in_base 16 digits) refl)
    (λ h. rw (no_word_from_length digits h.1) tt)
    (eqb_tells (length digits) 16)
  where
    by_bytes : length digits ≡ 16 → (b : Bool) → all_in_base 16 digits ≡ b
        → IfSome (hexadecimal_word digits) (λ number. number < 2 ^ 64)
    by_bytes n true all = rw (word_from_digits digits n all)
        (omega (arith, number_below digits all, ap (λ (k : ℕ). 16 ^ k) n))
    by_bytes n false none = rw (no_word_from_number digits (no_number_from_byte 16 digits none)) tt

-- fewer than 16 digits leave room for one more
pub room_for_digit : (digits : List ℕ) (index : ℕ) → length digits ≡ 16 → index < length digits
    → all_in_base 16 (take index digits) ≡ true → digits_value 16 (take index digits) < 16 ^ 15
room_for_digit digits index n lt all =
    let short : length (take index digits) ≤ 15 = omega (arith, length-take-le index digits (omega arith)) in
    let some : 0 < 16 = omega arith in
    omega (
      arith,
      number_below (take index digits) all,
      pow-le-pow_right {n = 16} some {i = length (take index digits)} {j = 15} short,
    )

-- one digit more
pub one_more_digit : (base : ℕ) (digits : List ℕ) (index : ℕ) → index < length digits
    → all_in_base base (take index digits) ≡ true
    → digit_value (get_or digits index 0) < base → all_in_base base (take (index + 1) digits) ≡ true
one_more_digit base digits index lt all small =
    list_all_more _ digits index 0 lt ∙ rw (all, lt-ltb (digit_value (get_or digits index 0)) base small)
