-- What is in a list of what was found.
use Rattle.std.proofs.Common.{◌≡◌, ℕ, zero, suc, ◌+◌, ◌<◌, List, [], ◌∷◌, ◌++◌, length, get_or, Option, Some, None}
use Rattle.std.proofs.Common.{Bool, true, false, refl, sym, ap, ◌∙◌, subst, arith, ⊎_elim, append-nil, ◌&&◌}
use Rattle.std.specs.List.{Contains, AllPairs}
use Rattle.std.proofs.lemmas.Bool.{false≢true, cases_lt}
use Rattle.std.proofs.lemmas.List.Elements.{Contains-append_left, Contains-append_right, Contains-append_cases}
use Rattle.std.proofs.lemmas.List.Quantifiers.{all_pairs_push}
use Rattle.run_findings.specs.Found.{list_of, found_to, lists_to}

pub both_true : (a b : Bool) → (a && b) ≡ true → (a ≡ true) × (b ≡ true)
both_true true b h = (refl, h)
both_true false b h = absurd (false≢true h)

in_list_of : {F : Type 0} (o : Option F) (f : F) → Contains (list_of o) f → o ≡ Some f
in_list_of None f c = absurd (omega (arith, c.1))
in_list_of (Some g) f c =
    let first : c.0 ≡ 0 = omega (arith, c.1) in ap Some (subst (λ k. get_or (g ∷ []) k f ≡ f) first c.2)

pub found-cases : {F : Type 0} (at : ℕ → Option F) (n : ℕ) (f : F) → Contains (found_to at n) f
    → (k : ℕ) × (k < n) × (at k ≡ Some f)
found-cases at zero f c = absurd (omega (arith, c.1))
found-cases at (suc n) f c = ⊎_elim
    (λ h. let r = found-cases at n f h in (r.0, omega (arith, r.1), r.2))
    (λ h. (n, omega arith, in_list_of (at n) f h))
    (Contains-append_cases (found_to at n) (list_of (at n)) f c)

in_list : {F : Type 0} (o : Option F) (f : F) → o ≡ Some f → Contains (list_of o) f
in_list o f e = subst (λ p. Contains (list_of p) f) (sym e) (0, omega arith, refl)

pub found-there : {F : Type 0} (at : ℕ → Option F) (n k : ℕ) (f : F) → k < n → at k ≡ Some f
    → Contains (found_to at n) f
found-there at zero k f below e = absurd (omega arith)
found-there at (suc n) k f below e = ⊎_elim
    (λ h. Contains-append_left (found_to at n) (list_of (at n)) f (found-there at n k f h e))
    (λ h.
    let last : n ≡ k = omega arith in
    Contains-append_right (found_to at n) (list_of (at n)) f (in_list (at n) f (ap at last ∙ e)))
    (cases_lt k n)

-- an element stands where it was taken from
within_is : {F : Type 0} (fs : List F) (k : ℕ) (d : F) → k < length fs → get_or fs k (get_or fs k d) ≡ get_or fs k d
within_is [] k d h = absurd (omega arith)
within_is (f ∷ fs) zero d h = refl
within_is (f ∷ fs) (suc k) d h = within_is fs k d (omega arith)

-- nothing in one more step
pub none-more : {F : Type 0} (at : ℕ → Option F) (n : ℕ) → ((k : ℕ) → k < n → at k ≡ None) → at n ≡ None
    → (k : ℕ) → k < n + 1 → at k ≡ None
none-more at n none here k below = ⊎_elim
    (λ h. none k h)
    (λ h. let same : k ≡ n = omega arith in ap at same ∙ here)
    (cases_lt k n)

-- Where a step may have several.

pub lists-cases : {F : Type 0} (at : ℕ → List F) (n : ℕ) (f : F) → Contains (lists_to at n) f
    → (k : ℕ) × (k < n) × Contains (at k) f
lists-cases at zero f c = absurd (omega (arith, c.1))
lists-cases at (suc n) f c = ⊎_elim
    (λ h. let r = lists-cases at n f h in (r.0, omega (arith, r.1), r.2))
    (λ h. (n, omega arith, h))
    (Contains-append_cases (lists_to at n) (at n) f c)

pub lists-there : {F : Type 0} (at : ℕ → List F) (n k : ℕ) (f : F) → k < n → Contains (at k) f
    → Contains (lists_to at n) f
lists-there at zero k f below c = absurd (omega arith)
lists-there at (suc n) k f below c = ⊎_elim
    (λ h. Contains-append_left (lists_to at n) (at n) f (lists-there at n k f h c))
    (λ h.
    let last : k ≡ n = omega arith in
    Contains-append_right (lists_to at n) (at n) f (subst (λ m. Contains (at m) f) last c))
    (cases_lt k n)

-- Each in the order of its step.

ordered-more : {F : Type 0} (key : F → ℕ) (n : ℕ) (fs : List F) (o : Option F)
    → AllPairs (λ f g. key f < key g) fs → ((k : ℕ) (d : F) → k < length fs → key (get_or fs k d) < n)
    → ((f : F) → o ≡ Some f → key f ≡ n) → AllPairs (λ f g. key f < key g) (fs ++ list_of o)
ordered-more key n fs None pairs below is = subst (AllPairs (λ f g. key f < key g)) (sym (append-nil fs)) pairs
ordered-more key n fs (Some f) pairs below is =
    all_pairs_push (λ f g. key f < key g) fs f pairs (λ k d h.
    let at_n = is f refl in
    let low = below k d h in
    omega arith)

pub found-ordered : {F : Type 0} (key : F → ℕ) (at : ℕ → Option F)
    → ((k : ℕ) (f : F) → at k ≡ Some f → key f ≡ k) → (n : ℕ) → AllPairs (λ f g. key f < key g) (found_to at n)
found-ordered key at is zero = λ i j d h k. absurd (omega arith)
found-ordered key at is (suc n) =
    ordered-more key n (found_to at n) (at n) (found-ordered key at is n) (λ k d h.
    let f = get_or (found_to at n) k d in
    let there : Contains (found_to at n) f = (k, h, within_is (found_to at n) k d h) in
    let r = found-cases at n f there in
    let at_k = is r.0 f r.2 in
    omega (arith, r.1))
    (is n)
