-- Printed numbers are read as themselves.
use Rattle.std.proofs.Common.{◌≡◌, ℕ, ◌+◌, ◌-◌, ◌%◌, ◌^◌, ◌<◌, ◌≤◌, Bool, true, false, ◌&&◌, List, [], ◌∷◌}
use Rattle.std.proofs.Common.{length, refl, ap, ◌∙◌, arith, ⊎_elim}
use Rattle.std.specs.Prelude.{nat_lt, nat_le, nat_eq, ◌==◌, Some, None, Ok, codes}
use Rattle.std.specs.Char.{digit_value}
use Rattle.std.specs.Fmt.{decimal}
use Rattle.std.specs.List.{list_all, starts_with}
use Rattle.std.specs.Str.Parse.{digits_value}
use Rattle.std.proofs.lemmas.Bool.{and_parts, and_from, and_left, and_right, lt-ltb, le-leb, cases_Bool}
use Rattle.std.proofs.lemmas.Bool.Decides.{nat_tests}
use Rattle.std.proofs.lemmas.Fmt.{decimal_by_steps, decimal_nonempty, decimal_is_IsNumeral}
use Rattle.text_parts.specs.Digits.{hexadecimal_16}
use Rattle.text_parts.specs.Reading.{are_digits, number_of_digits, number_of_text, hexadecimal_word}
use Rattle.text_parts.specs.Laws.{HexadecimalReadsBack}
use Rattle.asm_line.specs.Text.{is_name, is_first, is_further}
use Rattle.asm_line.specs.Numbers.{number_within, count_within}
use Rattle.asm_line.specs.Operands.{Places, value_within}
use Rattle.asm_line.specs.Parts.{immediate}
use Rattle.asm_line.specs.Directives.{word_number}
use Rattle.listing_line.specs.WordText.{digits_text}
use Rattle.listing_line.proofs.Bytes.{list_all-imp, list_all-both}
use Rattle.listing_line.proofs.Statements.{is_atom, is_term}

-- Decimal numbers.

abbrev pub is_decimal : ℕ → Bool
is_decimal b = nat_lt 47 b && nat_lt b 58

decimal-atom : (b : ℕ) → is_decimal b ≡ true → is_atom b ≡ true
decimal-atom b e = grind (arith, nat_tests)

decimal-digit : (b : ℕ) → is_decimal b ≡ true → nat_lt (digit_value b) 10 ≡ true
decimal-digit b e = grind (arith, nat_tests)

pub decimal-digits : (n : ℕ) → n < 2 ^ 64 → list_all is_decimal (decimal n) ≡ true
decimal-digits n h = decimal_by_steps (λ k ds. list_all is_decimal ds ≡ true)
    (λ k small. one (48 + k) (omega arith) (omega arith))
    (λ k ds big e. list_all-both is_decimal ds ((48 + k % 10) ∷ []) e (one (48 + k % 10) (omega arith) (omega arith)))
    n h
  where
    one : (b : ℕ) → 47 < b → b < 58 → list_all is_decimal (b ∷ []) ≡ true
    one b low high = rw (lt-ltb 47 b low, lt-ltb b 58 high)

-- one digit or more
abbrev pub Digits : List ℕ → Type 0
Digits xs = (0 < length xs) × (list_all is_decimal xs ≡ true)

decimal-Digits : (n : ℕ) → n < 2 ^ 64 → Digits (decimal n)
decimal-Digits n h = (decimal_nonempty n h, decimal-digits n h)

Digits-term : (xs : List ℕ) → Digits xs → is_term xs ≡ true
Digits-term [] d = absurd (omega (arith, d.0))
Digits-term (x ∷ xs) d = list_all-imp is_decimal is_atom decimal-atom (x ∷ xs) d.1

pub decimal-term : (n : ℕ) → n < 2 ^ 64 → is_term (decimal n) ≡ true
decimal-term n h = Digits-term (decimal n) (decimal-Digits n h)

Digits-are_digits : (xs : List ℕ) → Digits xs → are_digits 10 xs ≡ true
Digits-are_digits xs d =
    and_from (nat_lt 0 (length xs)) (list_all (λ c. nat_lt (digit_value c) 10) xs) (lt-ltb 0 (length xs) d.0)
    (list_all-imp is_decimal (λ c. nat_lt (digit_value c) 10) decimal-digit xs d.1)

digit-no_x : (b : ℕ) → is_decimal b ≡ true → nat_eq 120 b ≡ false
digit-no_x b e = grind (arith, nat_tests)

-- no digits stand behind 0x
Digits-no_prefix : (xs : List ℕ) → Digits xs → starts_with nat_eq xs (codes "0x") ≡ false
Digits-no_prefix [] d = refl
Digits-no_prefix (x ∷ []) d = and_right (nat_eq 48 x) false refl
Digits-no_prefix (x ∷ y ∷ ys) d =
    let two = and_parts (is_decimal x) (list_all is_decimal (y ∷ ys)) d.1 in
    let other = digit-no_x y (and_parts (is_decimal y) (list_all is_decimal ys) two.1).0 in
    and_right (nat_eq 48 x) (nat_eq 120 y && true) (and_left (nat_eq 120 y) true other)

Digits-number : (xs : List ℕ) → Digits xs → number_of_text xs ≡ Some (digits_value 10 xs)
unfolding number_of_text number_of_digits
Digits-number xs d = rw (Digits-no_prefix xs d, Digits-are_digits xs d)

decimal-value : (n : ℕ) → n < 2 ^ 64 → digits_value 10 (decimal n) ≡ n
decimal-value n h = (decimal_is_IsNumeral n h).1

pub number-decimal : (n : ℕ) → n < 2 ^ 64 → number_of_text (decimal n) ≡ Some n
number-decimal n h = Digits-number (decimal n) (decimal-Digits n h) ∙ ap Some (decimal-value n h)

pub number_within-decimal : (most n : ℕ) → n < 2 ^ 64 → n ≤ most → number_within most (decimal n) ≡ Ok n
unfolding number_within
number_within-decimal most n h le = rw (number-decimal n h, le-leb n most le)

pub count_within-decimal : (most n : ℕ) → n < 2 ^ 64 → 1 ≤ n → n ≤ most → count_within most (decimal n) ≡ Ok n
unfolding count_within
count_within-decimal most n h one le = rw (number_within-decimal most n h le, lt-ltb 0 n one)

digit-not_first : (b : ℕ) → is_decimal b ≡ true → is_first b ≡ false
digit-not_first b e = grind (arith, nat_tests)

Digits-no_name : (xs : List ℕ) → Digits xs → is_name xs ≡ false
unfolding is_name
Digits-no_name [] d = absurd (omega (arith, d.0))
Digits-no_name (x ∷ xs) d =
    let other = digit-not_first x (and_parts (is_decimal x) (list_all is_decimal xs) d.1).0 in
    and_right (nat_lt 0 (length (x ∷ xs)) && nat_le (length (x ∷ xs)) 32) (is_first x && list_all is_further xs)
    (and_left (is_first x) (list_all is_further xs) other)

pub immediate-decimal : (places : Places) (n : ℕ) → n < 2 ^ 32 → immediate places (decimal n) ≡ Ok n
unfolding immediate value_within
immediate-decimal places n h =
    rw (Digits-no_name (decimal n) (decimal-Digits n (omega arith)))
    (number_within-decimal (2 ^ 32 - 1) n (omega arith) (omega arith))

-- Hexadecimal words.

abbrev pub is_hexadecimal : ℕ → Bool
is_hexadecimal b = nat_lt (digit_value b) 16

hexadecimal-atom : (b : ℕ) → is_hexadecimal b ≡ true → is_atom b ≡ true
hexadecimal-atom b e = grind (arith, nat_tests)

pub record IsWordDigits (ds : List ℕ) (n : ℕ) : Type 0 where
  pub digits : are_digits 16 ds ≡ true
  pub value : digits_value 16 ds ≡ n

word_digits : (ds : List ℕ) (n : ℕ) → hexadecimal_word ds ≡ Some n → IsWordDigits ds n
unfolding hexadecimal_word number_of_digits
word_digits ds n e = ⊎_elim
    (λ h. by_digits h (rw h at e))
    (λ h. let bad : None ≡ Some n = rw h at e in absurd (cc))
    (cases_Bool (length ds == 16))
  where
    by_digits : length ds == 16 ≡ true → number_of_digits 16 ds ≡ Some n → IsWordDigits ds n
    by_digits _ f = ⊎_elim
        (λ h. let same : Some (digits_value 16 ds) ≡ Some n = rw h at f in record { digits = h; value = cc })
        (λ h. let bad : None ≡ Some n = rw h at f in absurd (cc))
        (cases_Bool (are_digits 16 ds))

pub hexadecimal-digits : HexadecimalReadsBack → (n : ℕ) → n < 2 ^ 64 → IsWordDigits (hexadecimal_16 n) n
hexadecimal-digits law n h = word_digits (hexadecimal_16 n) n (law n h)

pub hexadecimal-atoms : (ds : List ℕ) (n : ℕ) → IsWordDigits ds n → list_all is_atom ds ≡ true
hexadecimal-atoms ds n w =
    list_all-imp is_hexadecimal is_atom hexadecimal-atom ds
    (and_parts (nat_lt 0 (length ds)) (list_all is_hexadecimal ds) w.digits).1

pub digits_text-term : HexadecimalReadsBack → (n : ℕ) → n < 2 ^ 64 → is_term (digits_text n) ≡ true
digits_text-term law n h = hexadecimal-atoms (hexadecimal_16 n) n (hexadecimal-digits law n h)

pub word_number-digits : HexadecimalReadsBack → (n : ℕ) → n < 2 ^ 64 → word_number (digits_text n) ≡ Ok n
unfolding word_number number_within number_of_text number_of_digits
word_number-digits law n h =
    let w = hexadecimal-digits law n h in rw (w.digits, w.value, le-leb n (2 ^ 64 - 1) (omega arith))
