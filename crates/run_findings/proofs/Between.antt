-- Steps between two others.
use Rattle.std.proofs.Common.{◌≡◌, ℕ, zero, suc, ◌+◌, ◌<◌, ◌≤◌, Bool, true, false, ltb, refl, sym, ap, ◌∙◌, arith}
use Rattle.std.proofs.Common.{◌&&◌, ◌||◌, le-ltb, lt-ltb, ⊎_elim}
use Rattle.std.proofs.lemmas.Bool.{cases_lt}
use Rattle.run_findings.specs.TornReads.{any_between}

-- none lies between a step and the next
pub none-between : (test : ℕ → Bool) (lo n : ℕ) → n ≤ lo + 1 → any_between test lo n ≡ false
none-between test lo zero close = refl
none-between test lo (suc n) close =
    ap (λ b. (b && test n) || any_between test lo n) (le-ltb lo n (omega arith))
    ∙ none-between test lo n (omega arith)

-- one that passes
found-by : (a b : Bool) → a ≡ true → (a || b) ≡ true
found-by a b e = ap (λ t. t || b) e

kept-by : (a b : Bool) → b ≡ true → (a || b) ≡ true
kept-by true b e = refl
kept-by false b e = e

pub one-between : (test : ℕ → Bool) (lo m n : ℕ) → lo < m → m < n → test m ≡ true → any_between test lo n ≡ true
one-between test lo m zero above below passed = absurd (omega arith)
one-between test lo m (suc n) above below passed = ⊎_elim
    (λ h. kept-by (ltb lo n && test n) (any_between test lo n) (one-between test lo m n above h passed))
    (λ h.
    let here : m ≡ n = omega arith in
    found-by (ltb lo n && test n) (any_between test lo n)
    (ap (λ b. b && test n) (lt-ltb lo n (omega arith)) ∙ sym (ap test here) ∙ passed))
    (cases_lt m n)

-- none of fewer steps
fewer-by : (a b : Bool) → (a || b) ≡ false → b ≡ false
fewer-by true b e = absurd cc
fewer-by false b e = e

pub fewer-between : (test : ℕ → Bool) (lo m n : ℕ) → m ≤ n → any_between test lo n ≡ false
    → any_between test lo m ≡ false
fewer-between test lo m zero fewer none =
    let same : zero ≡ m = omega arith in sym (ap (any_between test lo) same) ∙ none
fewer-between test lo m (suc n) fewer none = ⊎_elim
    (λ h. fewer-between test lo m n (omega arith) (fewer-by (ltb lo n && test n) (any_between test lo n) none))
    (λ h. let same : suc n ≡ m = omega arith in sym (ap (any_between test lo) same) ∙ none)
    (cases_lt m (suc n))
