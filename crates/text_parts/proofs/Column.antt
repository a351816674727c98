-- A number in a column: blanks, and its digits where they end.
use Rattle.std.proofs.Common.{◌≡◌, ℕ, zero, suc, ◌+◌, ◌-◌, ◌/◌, ◌%◌, ◌^◌, ◌<◌, ◌≤◌, List, ◌++◌, length, take, drop}
use Rattle.std.proofs.Common.{replicate, ◌∷◌, pow-suc, refl, sym, ◌∙◌, ap, arith, append-nil, length-append, []}
use Rattle.std.proofs.Math.Nat.{one-le-pow}
use Rattle.std.proofs.lemmas.Bool.{lt-ltb}
use Rattle.std.proofs.lemmas.Fmt.{IsAscii-decimal, length-decimal-le, decimal_nonempty, decimal_step, decimal_digit}
use Rattle.std.proofs.lemmas.List.{drop_all, length-replicate, take-append-drop, take-replicate}
use Rattle.std.proofs.lemmas.Str.{IsUtf8-from_ascii, IsAscii-append}
use Rattle.std.proofs.lemmas.Str.Ascii.{IsAscii-nil, IsAscii-cons}
use Rattle.std.specs.Fmt.{decimal}
use Rattle.std.specs.Str.{IsAscii}
use Rattle.text_parts.specs.Columns.{right_aligned}
use Rattle.text_parts.specs.Digits.{fixed_digits}
use Rattle.text_parts.specs.Text.{IsText}

-- digits written over the end of blanks
pub column_filled : (width n start : ℕ) (old new : List ℕ) → old ≡ replicate width 32
    → start + length (decimal n) ≡ width → drop start new ≡ decimal n ++ drop width old
    → take start new ≡ take start old → new ≡ right_aligned width n
column_filled width n start old new blanks ends written before =
    let none : drop width old ≡ [] =
    ap (drop width) blanks ∙ drop_all width (replicate width 32) (omega (arith, length-replicate {A = ℕ} width 32)) in
    let front : take start old ≡ replicate (width - length (decimal n)) 32 =
    ap (take start) blanks ∙ take-replicate start width 32 (omega arith)
    ∙ ap (λ (k : ℕ). replicate k 32) {x = start} {y = width - length (decimal n)} (omega arith) in
    sym (take-append-drop start new)
    ∙ ap (λ xs. xs ++ drop start new) (before ∙ front)
    ∙ ap (λ xs. replicate (width - length (decimal n)) 32 ++ xs)
    (written ∙ ap (λ xs. decimal n ++ xs) none ∙ append-nil (decimal n))

ascii-blanks : (k : ℕ) → IsAscii (replicate k 32)
ascii-blanks zero = IsAscii-nil
ascii-blanks (suc k) = IsAscii-cons 32 (replicate k 32) (omega arith) (ascii-blanks k)

pub is_text : (width n : ℕ) (bs : List ℕ) → n < 2 ^ 64 → bs ≡ right_aligned width n → IsText bs
is_text width n bs small e =
    let blanks = width - length (decimal n) in
    record {
      utf8 = rw e (IsUtf8-from_ascii (right_aligned width n)
          (IsAscii-append (replicate blanks 32) (decimal n) (ascii-blanks blanks) (IsAscii-decimal n small)));
    }

pub short_3 : (n : ℕ) → n < 2 ^ 8 → length (decimal n) ≤ 3
short_3 n small = length-decimal-le 3 n (omega arith) (omega arith) (omega arith)

pub short_7 : (n : ℕ) → n < 10000000 → length (decimal n) ≤ 7
short_7 n small = length-decimal-le 7 n (omega arith) (omega arith) (omega arith)

pub length-right_aligned : (width n : ℕ) → length (decimal n) ≤ width → length (right_aligned width n) ≡ width
length-right_aligned width n fits =
    omega (
      arith,
      length-append (replicate (width - length (decimal n)) 32) (decimal n),
      length-replicate {A = ℕ} (width - length (decimal n)) 32,
    )

-- a number with a greater power of ten in it has more digits
length-decimal-lt : (k n : ℕ) → 10 ^ k ≤ n → n < 2 ^ 64 → k < length (decimal n)
length-decimal-lt zero n large small = decimal_nonempty n small
length-decimal-lt (suc k) n large small =
    let power = pow-suc 10 k in
    let some : 0 < 10 ^ k = one-le-pow k 10 (omega arith) in
    let ten : 10 ≤ n = omega arith in
    let front : 10 ^ k ≤ n / 10 = omega arith in
    let rest = length-decimal-lt k (n / 10) front (omega arith) in
    omega (
      arith,
      rest,
      ap length (decimal_step n ten small),
      length-append (decimal (n / 10)) ((48 + n % 10) ∷ []),
    )

pub whole_7 : (n : ℕ) → 10000000 ≤ n → n < 2 ^ 64 → decimal n ≡ right_aligned 7 n
whole_7 n large small =
    let long = length-decimal-lt 7 n (omega arith) small in
    let none : 7 - length (decimal n) ≡ 0 = omega arith in
    rw none refl

-- a number of one digit
pub one_digit : (n : ℕ) → n < 10 → fixed_digits 10 1 n ≡ decimal n
unfolding fixed_digits
one_digit n small =
    let last : n % 10 ≡ n = omega arith in
    rw (decimal_digit n small, last, lt-ltb n 10 small) refl
