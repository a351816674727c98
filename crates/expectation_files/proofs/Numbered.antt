-- The word of a number.
use Rattle.std.proofs.Common.{◌≡◌, ℕ, ◌-◌, List, [], ◌∷◌, zero, suc, refl, sym, ap, ◌∙◌, arith}
use Rattle.std.specs.List.{slice_index_or}

index-next : (x : List ℕ) (xs : List (List ℕ)) (k : ℕ) → (k ≡ 0 → ⊥)
    → slice_index_or xs (k - 1) [] ≡ slice_index_or (x ∷ xs) k []
index-next x xs zero e = absurd (e refl)
index-next x xs (suc k) e = let same : suc k - 1 ≡ k = omega arith in ap (λ n. slice_index_or xs n []) same

-- what stands first is number 0
pub at_first : (all more : List (List ℕ)) (x : List ℕ) (k : ℕ) → all ≡ x ∷ more → k ≡ 0
    → slice_index_or all k [] ≡ x
at_first all more x k cut e =
    ap (λ xs. slice_index_or xs k []) cut ∙ ap (λ n. slice_index_or (x ∷ more) n []) e

-- what stands after it has the number before
pub after_first : (all more : List (List ℕ)) (x : List ℕ) (k : ℕ) → all ≡ x ∷ more → (k ≡ 0 → ⊥)
    → slice_index_or more (k - 1) [] ≡ slice_index_or all k []
after_first all more x k cut e =
    index-next x more k e ∙ sym (ap (λ xs. slice_index_or xs k []) cut)
