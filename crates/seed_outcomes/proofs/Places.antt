-- What stands at a place of a list that is written or made longer.
use Rattle.std.proofs.Common.{◌≡◌, ℕ, zero, suc, refl, ap, ◌⊎◌, inl, inr}
use Rattle.std.proofs.Common.{List, [], ◌∷◌, ◌++◌, length, set, Some}
use Rattle.std.specs.Prelude.{slice_get}
use Rattle.std.proofs.lemmas.Option.{same_Some}

module _ {X : Type 0} where
  pub from_set : (xs : List X) (i k : ℕ) (new x : X) → slice_get (set xs i new) k ≡ Some x
      → ((k ≡ i) × (new ≡ x)) ⊎ (slice_get xs k ≡ Some x)
  from_set [] i k new x there = inr there
  from_set (y ∷ ys) zero zero new x there = inl (refl, same_Some new x there)
  from_set (y ∷ ys) zero (suc k) new x there = inr there
  from_set (y ∷ ys) (suc i) zero new x there = inr there
  from_set (y ∷ ys) (suc i) (suc k) new x there =
      elim (from_set ys i k new x there) [ inl here ↦ inl (ap suc here.0, here.1) | inr old ↦ inr old ]

  pub from_push : (xs : List X) (k : ℕ) (x new : X) → slice_get (xs ++ new ∷ []) k ≡ Some x
      → (slice_get xs k ≡ Some x) ⊎ ((k ≡ length xs) × (new ≡ x))
  from_push [] zero x new there = inr (refl, same_Some new x there)
  from_push [] (suc k) x new there = absurd cc
  from_push (y ∷ ys) zero x new there = inl there
  from_push (y ∷ ys) (suc k) x new there =
      elim (from_push ys k x new there) [ inl old ↦ inl old | inr last ↦ inr (ap suc last.0, last.1) ]
