-- Tests of each number of a range.
use Rattle.std.proofs.Common.{◌≡◌, ℕ, zero, suc, ◌+◌, ◌<◌, ◌≤◌, ◌⊎◌, inl, inr, refl, sym, ap, ◌∙◌, arith, add-one}
use Rattle.std.proofs.Common.{Bool, true, false, ◌&&◌, []}
use Rattle.std.proofs.lemmas.Bool.{cases_lt}
use Rattle.std.specs.List.{list_all, range_with_len}

pub all_from : (P : ℕ → Bool) (a n : ℕ) → ((k : ℕ) → a ≤ k → k < a + n → P k ≡ true)
    → list_all P (range_with_len a n) ≡ true
all_from P a zero each = refl
all_from P a (suc n) each =
    let here : P a ≡ true = each a (omega arith) (omega arith) in
    rw here (all_from P (a + 1) n (λ k low high. each k (omega arith) (omega arith)))

pub and_fails : (b x : Bool) → x ≡ false → (b && x) ≡ false
and_fails true x fails = fails
and_fails false x fails = refl

fails_first : (P : ℕ → Bool) (a n k : ℕ) → a ≤ k → P k ≡ false → (a < k) ⊎ (k ≤ a)
    → (a < k → list_all P (range_with_len (a + 1) n) ≡ false) → list_all P (range_with_len a (suc n)) ≡ false
fails_first P a n k low fails (inl later) rest =
    and_fails (P a) (list_all P (range_with_len (a + 1) n)) (rest later)
fails_first P a n k low fails (inr here) rest =
    let same : k ≡ a = omega arith in
    let first : P a ≡ false = ap P (sym same) ∙ fails in
    rw first refl

pub fails_from : (P : ℕ → Bool) (a n k : ℕ) → a ≤ k → k < a + n → P k ≡ false → list_all P (range_with_len a n) ≡ false
fails_from P a zero k low high fails = absurd (omega arith)
fails_from P a (suc n) k low high fails =
    fails_first P a n k low fails (cases_lt a k)
    (λ later. fails_from P (a + 1) n k (omega arith) (omega arith) fails)
