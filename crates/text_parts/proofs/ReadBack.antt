-- What is printed is read back.
use Rattle.std.proofs.Common.{◌≡◌, ℕ, zero, suc, ◌-◌, ◌/◌, ◌%◌, ◌^◌, ◌<◌, ◌≤◌, true, List, [], ◌∷◌, ◌++◌, length}
use Rattle.std.proofs.Common.{replicate, Some, lt-ltb, ne_eqb, refl, sym, ap, ◌∙◌, arith, pow-suc, length-append}
use Rattle.std.proofs.Math.Arith.{mod-mul}
use Rattle.std.proofs.Math.Nat.{one-le-pow, pow-zero, mod-one}
use Rattle.std.proofs.lemmas.Bool.Decides.{nat_tests}
use Rattle.std.proofs.lemmas.Fmt.{decimal_is_IsNumeral, length-decimal-le}
use Rattle.std.proofs.lemmas.Int.Digits.{digits_value_push}
use Rattle.std.proofs.lemmas.List.Folds.{list_all-append}
use Rattle.std.proofs.lemmas.List.{length-replicate}
use Rattle.std.specs.Char.{digit_value, is_digit}
use Rattle.std.specs.Fmt.{digit_glyph, decimal}
use Rattle.std.specs.Str.Parse.{digits_value, AllDigits}
use Rattle.text_parts.specs.Digits.{fixed_digits, hexadecimal_16}
use Rattle.text_parts.specs.Laws.{HexadecimalReadsBack, FixedWidth, DigitsReadBack}
use Rattle.text_parts.specs.Laws.{DecimalReadsBack, without_blanks, AlignedReadsBack, AlignedWidth}
use Rattle.text_parts.specs.Reading.{all_in_base, number_of_digits}
use Rattle.text_parts.proofs.Printed.{length-fixed_digits}
use Rattle.text_parts.proofs.Read.{number_from_digits, word_from_digits}

-- Digits of a fixed width.

digit_value-digit_glyph : (d : ℕ) → d < 16 → digit_value (digit_glyph true d) ≡ d
digit_value-digit_glyph d small = grind (arith, nat_tests)

list_all-fixed_digits : (base count n : ℕ) → 0 < base → base ≤ 16
    → all_in_base base (fixed_digits base count n) ≡ true
unfolding fixed_digits
list_all-fixed_digits base zero n some le = refl
list_all-fixed_digits base (suc k) n some le =
    let small : n % base < base = omega arith in
    let last : is_digit (digit_glyph true (n % base)) base ≡ true =
    rw (digit_value-digit_glyph (n % base) (omega arith)) (lt-ltb (n % base) base small) in
    list_all-append _ (fixed_digits base k (n / base)) (digit_glyph true (n % base) ∷ [])
    ∙ rw (list_all-fixed_digits base k (n / base) some le, last)

digits_value-fixed_digits : (base count n : ℕ) → 0 < base → base ≤ 16
    → digits_value base (fixed_digits base count n) ≡ n % base ^ count
unfolding fixed_digits
digits_value-fixed_digits base zero n some le = rw (pow-zero base) (sym (mod-one n))
digits_value-fixed_digits base (suc k) n some le =
    let small : n % base < base = omega arith in
    let some_power : 0 < base ^ k = one-le-pow k base some in
    digits_value_push base (fixed_digits base k (n / base)) (digit_glyph true (n % base))
    ∙ rw (
      digits_value-fixed_digits base k (n / base) some le,
      digit_value-digit_glyph (n % base) (omega arith),
      pow-suc base k,
    )
    (sym (mod-mul n some_power some))

reads_fixed : (base count n : ℕ) → 0 < base → base ≤ 16 → 0 < count
    → number_of_digits base (fixed_digits base count n) ≡ Some (n % base ^ count)
reads_fixed base count n some le long =
    let has_some : 0 < length (fixed_digits base count n) = omega (arith, length-fixed_digits base count n) in
    number_from_digits base (fixed_digits base count n) has_some (list_all-fixed_digits base count n some le)
    ∙ ap Some (digits_value-fixed_digits base count n some le)

pub reads_back : HexadecimalReadsBack
reads_back n small =
    let same : n % 16 ^ 16 ≡ n = omega arith in
    word_from_digits (hexadecimal_16 n) (length-fixed_digits 16 16 n)
    (list_all-fixed_digits 16 16 n (omega arith) (omega arith))
    ∙ ap Some (digits_value-fixed_digits 16 16 n (omega arith) (omega arith) ∙ same)

pub fixed_width : FixedWidth
fixed_width base count n = length-fixed_digits base count n

pub digits_read_back : DigitsReadBack
digits_read_back base count n some le long = reads_fixed base count n some le long

-- Decimal numbers.

all_digits-list_all : (base : ℕ) (ds : List ℕ) → AllDigits base ds → all_in_base base ds ≡ true
all_digits-list_all base [] all = refl
all_digits-list_all base (c ∷ cs) all = rw (lt-ltb (digit_value c) base all.0, all_digits-list_all base cs all.1) refl

pub reads_back_decimal : DecimalReadsBack
reads_back_decimal n small =
    let numeral = decimal_is_IsNumeral n small in
    number_from_digits 10 (decimal n) numeral.0.0 (all_digits-list_all 10 (decimal n) numeral.0.1) ∙ ap Some numeral.1

no_blank_first : (ds : List ℕ) → AllDigits 10 ds → without_blanks ds ≡ ds
unfolding without_blanks
no_blank_first [] all = refl
no_blank_first (c ∷ cs) all = let other = ne_eqb c 32 (λ e. no_digit e all.0) in rw other refl
  where
    no_digit : c ≡ 32 → digit_value c < 10 → ⊥
    no_digit e small = let below : digit_value 32 < 10 = rw e at small in omega (arith, below)

without_blanks-filled : (k : ℕ) (ds : List ℕ) → without_blanks (replicate k 32 ++ ds) ≡ without_blanks ds
unfolding without_blanks
without_blanks-filled zero ds = refl
without_blanks-filled (suc k) ds = without_blanks-filled k ds

pub reads_back_aligned : AlignedReadsBack
reads_back_aligned width n small =
    let digits = (decimal_is_IsNumeral n small).0.1 in
    rw (without_blanks-filled (width - length (decimal n)) (decimal n), no_blank_first (decimal n) digits)
    (reads_back_decimal n small)

pub aligned_width : AlignedWidth
aligned_width width n some few small =
    let blanks = width - length (decimal n) in
    omega (
      arith,
      length-append (replicate blanks 32) (decimal n),
      length-replicate {A = ℕ} blanks 32,
      length-decimal-le width n some few small,
    )
