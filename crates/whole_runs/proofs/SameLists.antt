-- Lists that are compared place by place.
use Rattle.std.proofs.Common.{◌≡◌, ℕ, zero, suc, ◌+◌, ◌<◌, ◌≤◌, refl, sym, ap, ◌∙◌, subst, arith, ◌↔◌, ◌⊎◌, inl, inr}
use Rattle.std.proofs.Common.{List, [], ◌∷◌, length, Option, Some, IsSome, is_some, slice_get, true}
use Rattle.std.proofs.lemmas.Bool.{cases_lt}
use Rattle.std.proofs.lemmas.Option.{slice_get_past, same_Some}
use Rattle.step_views.proofs.AllPlaces.{lists_same}

-- the same at each place below n
abbrev pub AreSameBelow : {A : Type 0} → List A → List A → ℕ → Type 0
AreSameBelow xs ys n = (k : ℕ) → k < n → slice_get xs k ≡ slice_get ys k

pub same_none : {A : Type 0} (xs ys : List A) → AreSameBelow xs ys 0
same_none xs ys k below = absurd (omega arith)

pub same_more : {A : Type 0} (xs ys : List A) (n : ℕ) (x y : A) → slice_get xs n ≡ Some x → slice_get ys n ≡ Some y
    → x ≡ y → AreSameBelow xs ys n → AreSameBelow xs ys (n + 1)
same_more {A} xs ys n x y one other same so_far k below = by_case (cases_lt k n) where
  by_case : (k < n) ⊎ (n ≤ k) → slice_get xs k ≡ slice_get ys k
  by_case (inl less) = so_far k less
  by_case (inr most) =
      let here : n ≡ k = omega arith in
      subst (λ j. slice_get xs j ≡ slice_get ys j) here (one ∙ ap Some same ∙ sym other)

pub same_end : {A : Type 0} (xs ys : List A) (n : ℕ) → length xs ≤ n → length ys ≤ n → AreSameBelow xs ys n → xs ≡ ys
same_end {A} xs ys n one other same = lists_same xs ys each where
  each : (k : ℕ) → slice_get xs k ≡ slice_get ys k
  each k = elim (cases_lt k n) [
    | inl less ↦ same k less
    | inr past ↦
        slice_get_past xs k (omega (arith, one, past)) ∙ sym (slice_get_past ys k (omega (arith, other, past)))
  ]

pub other_at : {A : Type 0} (xs ys : List A) (n : ℕ) (x y : A) → slice_get xs n ≡ Some x → slice_get ys n ≡ Some y
    → (x ≡ y → ⊥) → xs ≡ ys → ⊥
other_at xs ys n x y one other differs same =
    differs (same_Some x y (sym one ∙ ap (λ l. slice_get l n) same ∙ other))

there : {A : Type 0} (xs : List A) (n : ℕ) → n < length xs → is_some (slice_get xs n) ≡ true
there [] n below = absurd (omega arith)
there (x ∷ xs) zero below = refl
there (x ∷ xs) (suc n) below = there xs n (omega arith)

-- a list with nothing at n is no longer
pub no_longer : {A : Type 0} (xs : List A) (n : ℕ) (o : Option A) → o ≡ slice_get xs n → (IsSome o ↔ (n < n))
    → length xs ≤ n
no_longer xs n o is none =
    elim (cases_lt n (length xs)) [
      | inl below ↦ let never : n < n = none.0 (ap is_some is ∙ there xs n below) in absurd (omega arith)
      | inr past ↦ past
    ]
