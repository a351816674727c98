-- Numbers of 64 bits as two of 32 bits.
use Rattle.std.proofs.Common.{◌≡◌, ℕ, ◌+◌, ◌/◌, ◌%◌, ◌^◌, ◌<◌, ◌≤◌, refl, sym, ap, ◌∙◌, arith, append_assoc}
use Rattle.std.proofs.Common.{List, [], ◌∷◌, ◌++◌, length, take, drop, append-nil, Some, slice_get}
use Rattle.std.proofs.Common.{Bool, true, false, cond, Option, IsSome, is_some, ◌↔◌, ◌⊎◌, inl, inr}
use Rattle.std.proofs.Common.{zero, suc}
use Rattle.std.proofs.lemmas.Bool.{cases_lt}
use Rattle.std.proofs.lemmas.List.{at_drop_more, drop_all, take_at, drop_at}
use Rattle.std.proofs.lemmas.Option.{slice_get_within, get_or_from_slice_get}
use Rattle.world_keys.specs.StreamNumbers.{halves, all_halves}

pub all_halves-append : (xs ys : List ℕ) → all_halves (xs ++ ys) ≡ all_halves xs ++ all_halves ys
all_halves-append [] ys = refl
all_halves-append (x ∷ xs) ys =
    ap (λ zs. halves x ++ zs) (all_halves-append xs ys) ∙ sym (append_assoc (halves x) (all_halves xs) (all_halves ys))

pub joined : (n m : ℕ) → n % 2 ^ 32 ≡ m % 2 ^ 32 → n / 2 ^ 32 ≡ m / 2 ^ 32 → n ≡ m
joined n m low high = omega arith

-- numbers are told by their halves
pub same_numbers : (xs ys : List ℕ) → all_halves xs ≡ all_halves ys → xs ≡ ys
same_numbers [] [] same = refl
same_numbers [] (y ∷ ys) same = absurd cc
same_numbers (x ∷ xs) [] same = absurd cc
same_numbers (x ∷ xs) (y ∷ ys) same =
    let low : x % 2 ^ 32 ≡ y % 2 ^ 32 = cc in
    let high : x / 2 ^ 32 ≡ y / 2 ^ 32 = cc in
    let rest : all_halves xs ≡ all_halves ys = cc in
    λ i. joined x y low high i ∷ same_numbers xs ys rest i

within : {A : Type 0} (xs : List A) (n : ℕ) → is_some (slice_get xs n) ≡ true → n < length xs
within [] n some = absurd cc
within (x ∷ xs) zero some = omega arith
within (x ∷ xs) (suc n) some = let rest = within xs n some in omega arith

found : {A : Type 0} (xs : List A) (n : ℕ) → n < length xs → is_some (slice_get xs n) ≡ true
found [] n below = absurd (omega arith)
found (x ∷ xs) zero below = refl
found (x ∷ xs) (suc n) below = found xs n (omega arith)

-- a list with an element at n, and none behind, has n + 1
pub exactly : {A : Type 0} (xs : List A) (n : ℕ) (o p : Option A) → o ≡ slice_get xs n → (IsSome o ↔ (n < n + 1))
    → p ≡ slice_get xs (n + 1) → (IsSome p ↔ (n + 1 < n + 1)) → length xs ≡ n + 1
exactly {A} xs n o p is there end none = by_length (cases_lt (n + 1) (length xs)) where
  here : n < length xs
  here = let some : IsSome o = there.1 (omega arith) in within xs n (sym (ap is_some is) ∙ some)

  by_length : (n + 1 < length xs) ⊎ (length xs ≤ n + 1) → length xs ≡ n + 1
  by_length (inl more) =
      let never : n + 1 < n + 1 = none.0 (ap is_some end ∙ found xs (n + 1) more) in absurd (omega arith)
  by_length (inr all) = omega (arith, here)

-- Numbered things, of which some are left out: what is told of the others begins with their numbers.
pub numbered : (b : Bool) (n a : ℕ) (xs later rest : List ℕ) → (later ≡ a ∷ rest → n + 1 ≤ a)
    → cond b [] (n ∷ xs) ++ later ≡ a ∷ rest → n ≤ a
numbered true n a xs later rest late is = let behind = late is in omega arith
numbered false n a xs later rest late is = let here : n ≡ a = cc in omega arith

-- one number more of a list is put behind
pub one_more : (all numbers more xs : List ℕ) (n v : ℕ) → numbers ++ all_halves (drop n xs) ≡ all
    → slice_get xs n ≡ Some v → more ≡ numbers ++ halves v → more ++ all_halves (drop (n + 1) xs) ≡ all
one_more all numbers more xs n v so_far there is =
    let rest = all_halves (drop (n + 1) xs) in
    let next : all_halves (drop n xs) ≡ halves v ++ rest =
    at_drop_more all_halves xs n v (slice_get_within xs n v there)
    ∙ ap (λ x. halves x ++ rest) (get_or_from_slice_get xs n v v there) in
    ap (λ x. x ++ rest) is ∙ append_assoc numbers (halves v) rest ∙ ap (λ x. numbers ++ x) (sym next) ∙ so_far

-- no number is left
pub no_more : (all numbers xs : List ℕ) (n : ℕ) → numbers ++ all_halves (drop n xs) ≡ all → length xs ≤ n
    → numbers ≡ all
no_more all numbers xs n so_far past =
    sym (append-nil numbers) ∙ sym (ap (λ x. numbers ++ all_halves x) (drop_all n xs past)) ∙ so_far

-- lists that are the same together, and begin with as many, are the same apart
pub same_apart : (xs ys us vs : List ℕ) (n : ℕ) → length xs ≡ n → length us ≡ n → xs ++ ys ≡ us ++ vs
    → (xs ≡ us) × (ys ≡ vs)
same_apart xs ys us vs n one other same = (
  sym (take_at xs ys n one) ∙ ap (take n) same ∙ take_at us vs n other,
  sym (drop_at xs ys n one) ∙ ap (drop n) same ∙ drop_at us vs n other,
)
