-- Lists that get one element more.
use Rattle.std.proofs.Common.{◌≡◌, ℕ, zero, suc, ◌+◌, ◌<◌, ◌≤◌, ◌⊎◌, inl, inr, sym, ap, ◌∙◌, subst, arith}
use Rattle.std.proofs.Common.{List, [], ◌∷◌, ◌++◌, length, get_or, length-append, Some, slice_get}
use Rattle.std.specs.Prelude.{Vec}
use Rattle.std.specs.List.{HoldsAt}
use Rattle.std.specs.Global.{Global}
use Rattle.std.proofs.lemmas.Bool.{cases_lt}
use Rattle.std.proofs.lemmas.List.{get_or_append_left, get_or_push, get_or_default}
use Rattle.world_keys.specs.Tables.{place_in, Has, Extends}
use Rattle.world_keys.proofs.Places.{place_get}
use Rattle.std.proofs.lemmas.Option.{slice_get-get_or}
use Rattle.schedule_space.specs.Spaces.{SpaceValue}
use Rattle.state_tables.specs.Targets.{ArePlaces}
use Rattle.state_tables.specs.Depths.{depth_in, AreDepths}
use Rattle.state_tables.specs.NumberSets.{StandsAt, AreSets}

-- what is so of each element, of one more
pub each_more : {X : Type 0} (P : ℕ → X → Type 0) (xs : List X) (n : ℕ) (y : X) → length xs ≡ n
    → ((k : ℕ) → k < n → HoldsAt (P k) xs k) → P n y → (k : ℕ) → k < n + 1 → HoldsAt (P k) (xs ++ y ∷ []) k
each_more P xs n y many all here k below d = by_case (cases_lt k n) where
  by_case : (k < n) ⊎ (n ≤ k) → P k (get_or (xs ++ y ∷ []) k d)
  by_case (inl before) =
      subst (P k) (sym (get_or_append_left xs (y ∷ []) d k (omega (arith, before, many)))) (all k before d)
  by_case (inr behind) =
      let same : n ≡ k = omega (arith, below, behind) in
      subst (λ (j : ℕ). P j (get_or (xs ++ y ∷ []) j d)) same (subst (P n) (sym (get_or_push xs y d n many)) here)

-- the same of numbers
pub numbers_more : (P : ℕ → ℕ → Type 0) (xs : List ℕ) (n y : ℕ) → length xs ≡ n
    → ((k : ℕ) → k < n → P k (get_or xs k 0)) → P n y → (k : ℕ) → k < n + 1 → P k (get_or (xs ++ y ∷ []) k 0)
numbers_more P xs n y many all here k below = by_case (cases_lt k n) where
  by_case : (k < n) ⊎ (n ≤ k) → P k (get_or (xs ++ y ∷ []) k 0)
  by_case (inl before) =
      subst (P k) (sym (get_or_append_left xs (y ∷ []) 0 k (omega (arith, before, many)))) (all k before)
  by_case (inr behind) =
      let same : n ≡ k = omega (arith, below, behind) in
      subst (λ (j : ℕ). P j (get_or (xs ++ y ∷ []) j 0)) same (subst (P n) (sym (get_or_push xs y 0 n many)) here)

pub longer : {X : Type 0} (xs : List X) (y : X) (n : ℕ) → length xs ≡ n → length (xs ++ y ∷ []) ≡ n + 1
longer xs y n many = let more = length-append xs (y ∷ []) in omega (arith, more, many)

-- one place more
pub places_more : (n m : ℕ) (xs : List ℕ) → ArePlaces n xs → m ≡ n → ArePlaces (n + 1) (xs ++ m ∷ [])
places_more n m xs are same = record {
  many = longer xs m n are.many;
  each = numbers_more (λ k x. x ≡ k) xs n m are.many are.each same;
}

-- one depth more
pub depths_more : (v : SpaceValue) (n d : ℕ) (xs : List ℕ) → AreDepths v n xs → d ≡ depth_in v n
    → AreDepths v (n + 1) (xs ++ d ∷ [])
depths_more v n d xs are same = record {
  many = longer xs d n are.many;
  each = numbers_more (λ k x. x ≡ depth_in v k) xs n d are.many are.each same;
}

-- Tables that are extended.

get_more : {X : Type 0} (xs more : List X) (m : ℕ) (x : X) → slice_get xs m ≡ Some x → slice_get (xs ++ more) m ≡ Some x
get_more [] more m x is = absurd cc
get_more (y ∷ ys) more zero x is = is
get_more (y ∷ ys) more (suc m) x is = get_more ys more m x is

pub get_extended : (old new : List (List ℕ)) (m : ℕ) (x : List ℕ) → Extends old new → slice_get old m ≡ Some x
    → slice_get new m ≡ Some x
get_extended old new m x grown is =
    subst (λ (t : List (List ℕ)). slice_get t m ≡ Some x) (sym grown.1) (get_more old grown.0 m x is)

-- a list that a table has stands at its place
pub placed : (t : List (List ℕ)) (x : List ℕ) → Has t x → slice_get t (place_in t x) ≡ Some x
placed t x has =
    slice_get-get_or t (place_in t x) [] has ∙ ap (λ (y : List ℕ). Some y) (place_get t x [] has)

-- one list more
pub sets_more : (lists : List (Vec ℕ Global)) (n m : ℕ) (old new : List (List ℕ)) (set_of : List ℕ) (list : Vec ℕ Global)
    → AreSets lists n old set_of → Extends old new → n < length lists → list ≡ get_or lists n list
    → m ≡ place_in new list.items → Has new list.items → AreSets lists (n + 1) new (set_of ++ m ∷ [])
sets_more lists n m old new set_of list are grown below read at has = record {
  many = longer set_of m n are.many;
  each =
      numbers_more (λ k x. HoldsAt (StandsAt new x) lists k) set_of n m are.many
      (λ k less d. get_extended old new (get_or set_of k 0) (get_or lists k d).items grown (are.each k less d)) here;
} where
  stands : StandsAt new m list
  stands = ap (slice_get new) at ∙ placed new list.items has

  here : HoldsAt (StandsAt new m) lists n
  here d = subst (StandsAt new m) (read ∙ get_or_default lists n list d below) stands
