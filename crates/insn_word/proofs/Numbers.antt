-- Fields as digits and as one number.
use Rattle.std.proofs.Common.{◌≡◌, ℕ, zero, suc, ◌+◌, ◌-◌, ◌*◌, ◌/◌, ◌%◌, ◌^◌, ◌<◌, ◌≤◌, pos, negsuc, List, [], ◌∷◌}
use Rattle.std.proofs.Common.{◌++◌}
use Rattle.std.proofs.Common.{refl, sym, ◌∙◌, ap, arith, add_comm, zero-add}
use Rattle.std.proofs.Math.Nat.{suc-add, mod-eq_of_lt, mod-lt}
use Rattle.std.proofs.Math.Numerals.{one-add}
use Rattle.std.proofs.Math.Pow.{pow_mono}
use Rattle.std.proofs.lemmas.Int.{ints}
use Rattle.std.proofs.lemmas.Nat.{pow-add, pow_pos, mul-add-lt, div-mul-add, shr-shr, mod-pow-add}
use Rattle.std.proofs.lemmas.Nat.Bits.{bit_at_cat_low}
use Rattle.insn_word.specs.Parts.{Reads}
use Rattle.insn_word.specs.Fields.{Field, unsigned, signed, digits, IsFieldInRange, AreInRange, width, value, spelling}
use Rattle.insn_word.specs.Fields.{total_width, number_of_fields}

-- the number of a field in its range has its digits
pub value-lt : (f : Field) → IsFieldInRange f → value f < 2 ^ width f
value-lt (unsigned k n) h = h
value-lt (signed k (pos n)) h =
    let half : 2 ^ (k - 1) ≤ 2 ^ k = pow_mono {i = k - 1} {j = k} (omega arith) in
    let below : n < 2 ^ (k - 1) = omega (arith, ints, h.1) in omega arith
value-lt (signed k (negsuc n)) h = let some : 0 < 2 ^ k = pow_pos k in omega arith

pub number-lt : (fs : List Field) → AreInRange fs → number_of_fields fs < 2 ^ total_width fs
number-lt [] h = omega arith
number-lt (f ∷ fs) h =
    rw (pow-add 2 (width f) (total_width fs))
    (let below : value f * 2 ^ total_width fs + number_of_fields fs < 2 ^ total_width fs * 2 ^ width f =
    mul-add-lt (value f) (2 ^ total_width fs) (number_of_fields fs) (2 ^ width f) (value-lt f h.0) (number-lt fs h.1) in
    omega arith)

pub digits-add : (j k n : ℕ) → digits (j + k) n ≡ digits j (n / 2 ^ k) ++ digits k n
unfolding digits
digits-add zero k n = rw (zero-add k) refl
digits-add (suc j) k n =
    rw (suc-add j k, shr-shr n k j, add_comm k j) (ap (λ ds. n / 2 ^ (j + k) % 2 ∷ ds) (digits-add j k n))

-- digits further up don't matter
pub digits-low : (m k a b : ℕ) → m ≤ k → digits m (a * 2 ^ k + b) ≡ digits m b
unfolding digits
digits-low zero k a b h = refl
digits-low (suc m) k a b h =
    let first : (a * 2 ^ k + b) / 2 ^ m % 2 ≡ b / 2 ^ m % 2 = bit_at_cat_low a k b m (omega arith) in
    let others : digits m (a * 2 ^ k + b) ≡ digits m b = digits-low m k a b (omega arith) in cc

-- fields in their ranges are spelt by the digits of their number
pub digits-number : (fs : List Field) → AreInRange fs → digits (total_width fs) (number_of_fields fs) ≡ spelling fs
unfolding digits spelling
digits-number [] h = refl
digits-number (f ∷ fs) h =
    digits-add (width f) (total_width fs) (number_of_fields (f ∷ fs))
    ∙ rw (
      div-mul-add (value f) (2 ^ total_width fs) (number_of_fields fs) (number-lt fs h.1),
      digits-low (total_width fs) (total_width fs) (value f) (number_of_fields fs) (omega arith),
    )
    (ap (λ ds. digits (width f) (value f) ++ ds) (digits-number fs h.1))

-- the same digits are the same number, as far as they go
pub same_below : (k m n : ℕ) → digits k m ≡ digits k n → m % 2 ^ k ≡ n % 2 ^ k
unfolding digits
same_below zero m n e = omega arith
same_below (suc k) m n e =
    let first : m / 2 ^ k % 2 ≡ n / 2 ^ k % 2 = cc in
    let others : digits k m ≡ digits k n = cc in
    let rest : m % 2 ^ k ≡ n % 2 ^ k = same_below k m n others in
    rw (← one-add k, mod-pow-add m 1 k, mod-pow-add n 1 k) (cc)

pub number-from_digits : (fs : List Field) (n : ℕ) → AreInRange fs → n < 2 ^ total_width fs
    → digits (total_width fs) n ≡ spelling fs → number_of_fields fs ≡ n
number-from_digits fs n h fits e =
    let same = same_below (total_width fs) (number_of_fields fs) n (digits-number fs h ∙ sym e) in
    sym (mod-eq_of_lt (number-lt fs h)) ∙ same ∙ mod-eq_of_lt fits

pub total_width-append : (xs ys : List Field) → total_width (xs ++ ys) ≡ total_width xs + total_width ys
total_width-append [] ys = sym (zero-add (total_width ys))
total_width-append (x ∷ xs) ys = omega (arith, total_width-append xs ys)

pub number-append : (xs ys : List Field) → number_of_fields (xs ++ ys) ≡ number_of_fields xs * 2 ^ total_width ys + number_of_fields ys
number-append [] ys = omega arith
number-append (x ∷ xs) ys =
    rw (total_width-append xs ys, pow-add 2 (total_width xs) (total_width ys), number-append xs ys) (grind arith)

pub AreInRange-append : (xs ys : List Field) → AreInRange xs → AreInRange ys → AreInRange (xs ++ ys)
AreInRange-append [] ys h k = k
AreInRange-append (x ∷ xs) ys h k = (h.0, AreInRange-append xs ys h.1 k)

pub AreInRange-parts : (xs ys : List Field) → AreInRange (xs ++ ys) → AreInRange xs × AreInRange ys
AreInRange-parts [] ys h = (tt, h)
AreInRange-parts (x ∷ xs) ys h = let rest = AreInRange-parts xs ys h.1 in ((h.0, rest.0), rest.1)

-- sums with small remainders have the same quotients and remainders
same_parts : (w a b c d : ℕ) → b < w → d < w → a * w + b ≡ c * w + d → (a ≡ c) × (b ≡ d)
same_parts w a b c d small small' e =
    let quotient : a ≡ c = sym (div-mul-add a w b small) ∙ ap (λ n. n / w) e ∙ div-mul-add c w d small' in
    let product : a * w ≡ c * w = ap (λ n. n * w) quotient in
    (quotient, omega arith)

pub reads : (n : ℕ) (fs : List Field) → AreInRange fs → n % 2 ^ total_width fs ≡ number_of_fields fs → Reads n fs
reads n [] h e = tt
reads n (f ∷ fs) h e =
    let cut = mod-pow-add n (width f) (total_width fs) in
    let small : n % 2 ^ total_width fs < 2 ^ total_width fs = mod-lt n (pow_pos (total_width fs)) in
    let same =
    same_parts (2 ^ total_width fs) (n / 2 ^ total_width fs % 2 ^ width f) (n % 2 ^ total_width fs) (value f)
    (number_of_fields fs) small (number-lt fs h.1) (sym cut ∙ e) in
    (same.0, reads n fs h.1 same.1)
