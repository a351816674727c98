-- Elements of lists by their places.
use Rattle.std.proofs.Common.{◌≡◌, ℕ, zero, suc, ◌+◌, ◌<◌, ◌≤◌, sym, refl, ◌∙◌, ap, arith, List, [], ◌∷◌, ◌++◌}
use Rattle.std.proofs.Common.{length, drop}
use Rattle.std.proofs.Common.{get_or, Some, None, inl, inr}
use Rattle.std.specs.Prelude.{slice_get, ◌⊎◌}
use Rattle.std.proofs.lemmas.Bool.Decides.{leb_tells}
use Rattle.std.proofs.lemmas.Option.{same_Some, slice_get_read}

-- there is an element below the length
pub get-within : {A : Type 0} (xs : List A) (i : ℕ) → i < length xs → (x : A) × (slice_get xs i ≡ Some x)
get-within [] i h = absurd (omega arith)
get-within (x ∷ xs) zero h = (x, refl)
get-within (x ∷ xs) (suc i) h = get-within xs i (omega arith)

-- and none from it on
pub past : {A : Type 0} (xs : List A) (i : ℕ) → slice_get xs i ≡ None → length xs ≤ i
past xs i h = elim (leb_tells (length xs) i) [
  | inl t ↦ t.1
  | inr t ↦ absurd (let g = get-within xs i t.1 in let e : ⊥ = cc in e)
]

-- an element that was read
pub read-at : {A : Type 0} (xs : List A) (i : ℕ) (x : A) → i < length xs → x ≡ get_or xs i x → slice_get xs i ≡ Some x
read-at xs i x w h = slice_get_read xs (length xs) i x refl w h

-- of a list with one element more
pub get-push : {A : Type 0} (xs : List A) (y : A) (i : ℕ) (x : A) → slice_get (xs ++ y ∷ []) i ≡ Some x
    → (slice_get xs i ≡ Some x) ⊎ ((i ≡ length xs) × (x ≡ y))
get-push [] y zero x h = inr (refl, sym (same_Some _ _ h))
get-push [] y (suc i) x h = absurd (let e : ⊥ = cc in e)
get-push (z ∷ xs) y zero x h = inl h
get-push (z ∷ xs) y (suc i) x h = elim (get-push xs y i x h) [
  | inl a ↦ inl a
  | inr b ↦ inr (ap suc b.0, b.1)
]

-- of a list without its first elements
pub get-drop : {A : Type 0} (xs : List A) (d k : ℕ) → slice_get (drop d xs) k ≡ slice_get xs (d + k)
get-drop xs zero k = ap (λ n. slice_get xs n) (let e : k ≡ 0 + k = omega arith in e)
get-drop [] (suc d) k = refl
get-drop (x ∷ xs) (suc d) k =
    get-drop xs d k ∙ ap (λ n. slice_get (x ∷ xs) n) (let e : suc (d + k) ≡ suc d + k = omega arith in e)
