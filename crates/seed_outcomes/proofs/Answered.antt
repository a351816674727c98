-- What a chain over places has answered, where nothing went wrong.
use Rattle.std.proofs.Common.{◌≡◌, ℕ, zero, suc, ◌+◌, refl, sym, ap, ◌∙◌, subst, arith}
use Rattle.std.proofs.Common.{List, [], ◌∷◌, length, map, Some, Result, Ok}
use Rattle.std.specs.Prelude.{IfOk, slice_get}
use Rattle.std.specs.List.{AllZip, range_with_len}
use Rattle.std.proofs.lemmas.Option.{same_Some}

module _ {V : Type 0} (E : Type 0) (P : ℕ → V → Type 0) where
  answered_at : (a n : ℕ) (es : List V) → AllZip (λ (i : ℕ) (r : Result V E). IfOk r (P i)) (range_with_len a n) (map Ok es) → (k : ℕ) (e : V)
      → slice_get es k ≡ Some e → P (a + k) e
  answered_at a zero [] all k e there = absurd (let h : ⊥ = cc in h)
  answered_at a zero (x ∷ es) all k e there = absurd all
  answered_at a (suc n) [] all k e there = absurd all
  answered_at a (suc n) (x ∷ es) all zero e there =
      let place : a ≡ a + 0 = omega arith in
      subst (λ i. P i e) place (subst (λ y. P a y) (same_Some x e there) all.0)
  answered_at a (suc n) (x ∷ es) all (suc k) e there =
      let place : a + 1 + k ≡ a + suc k = omega arith in
      subst (λ i. P i e) place (answered_at (a + 1) n es all.1 k e there)

  answered_all : (a n : ℕ) (es : List V) → AllZip (λ (i : ℕ) (r : Result V E). IfOk r (P i)) (range_with_len a n) (map Ok es) → length es ≡ n
  answered_all a zero [] all = refl
  answered_all a zero (x ∷ es) all = absurd all
  answered_all a (suc n) [] all = absurd all
  answered_all a (suc n) (x ∷ es) all = let rest = answered_all (a + 1) n es all.1 in omega (arith, rest)

  pub all_answered : (n : ℕ) (places : List ℕ) (results : List (Result V E)) (found es : List V)
      → AllZip (λ (i : ℕ) (r : Result V E). IfOk r (P i)) places results
      → places ≡ range_with_len 0 n → results ≡ map Ok found → es ≡ found
      → ((k : ℕ) (e : V) → slice_get es k ≡ Some e → P k e) × (length es ≡ n)
  all_answered n places results found es all range ok is =
      let R : ℕ → Result V E → Type 0 = λ i r. IfOk r (P i) in
      let known : AllZip R (range_with_len 0 n) (map Ok found) =
      subst (λ (l : List ℕ). AllZip R l (map Ok found)) range
      (subst (λ (l : List (Result V E)). AllZip R places l) ok all) in (
        λ k e there.
            let place : 0 + k ≡ k = omega arith in
            let among : slice_get found k ≡ Some e = sym (ap (λ (l : List V). slice_get l k) is) ∙ there in
            subst (λ i. P i e) place (answered_at 0 n found known k e among),
        ap (λ (l : List V). length l) is ∙ answered_all 0 n found known,
      )
