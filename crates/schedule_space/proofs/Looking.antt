-- What holds of each element of a list that was gone through.
use Rattle.std.proofs.Common.{◌≡◌, ℕ, zero, suc, ◌+◌, ◌<◌, ◌≤◌, ◌⊎◌, inl, inr, refl, subst, arith, List, [], ◌∷◌, ◌++◌, length, get_or}
use Rattle.std.specs.List.{Contains}
use Rattle.std.proofs.lemmas.Bool.{cases_lt}
use Rattle.std.proofs.lemmas.List.Elements.{Contains-push_cases}

module _ {A : Type 0} where
  same_default : (xs : List A) (n : ℕ) (c d : A) → n < length xs → get_or xs n c ≡ get_or xs n d
  same_default [] n c d below = absurd (omega (arith, below))
  same_default (x ∷ xs) zero c d below = refl
  same_default (x ∷ xs) (suc n) c d below = same_default xs n c d (omega (arith, below))

  -- so far
  abbrev pub Before : (A → Type 0) → List A → ℕ → Type 0
  Before P xs n = (k : ℕ) (d : A) → k < n → P (get_or xs k d)

  pub one_more : (P : A → Type 0) (xs : List A) (n : ℕ) (c : A) → n < length xs → Before P xs n → P (get_or xs n c)
      → Before P xs (n + 1)
  one_more P xs n c within all last k d less = by (cases_lt k n) where
    by : (k < n) ⊎ (n ≤ k) → P (get_or xs k d)
    by (inl before) = all k d before
    by (inr past) =
        let same : n ≡ k = omega (arith, past, less) in
        subst (λ (j : ℕ). P (get_or xs j d)) same (subst P (same_default xs n c d within) last)

  pub each_one : (P : A → Type 0) (xs : List A) (n : ℕ) → length xs ≤ n → Before P xs n → (x : A) → Contains xs x → P x
  each_one P xs n many all x has = subst P has.2 (all has.0 x (omega (arith, has.1, many)))

  -- what holds of each element, and of one more, holds of all
  pub pushed : (P : A → Type 0) (old new : List A) (x : A) → new ≡ old ++ x ∷ [] → ((y : A) → Contains old y → P y) → P x
      → (y : A) → Contains new y → P y
  pushed P old new x is all last y there =
      by (Contains-push_cases old x y (subst (λ (ys : List A). Contains ys y) is there)) where
        by : Contains old y ⊎ (x ≡ y) → P y
        by (inl before) = all y before
        by (inr here) = subst P here last
