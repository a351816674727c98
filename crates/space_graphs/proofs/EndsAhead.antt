-- Which ends can still be reached.
use Rattle.std.proofs.Common.{◌≡◌, ℕ, ◌+◌, ◌<◌, ◌≤◌, ◌⊎◌, inl, inr, sym, subst, arith, Bool, List, [], ◌∷◌, ◌++◌, length}
use Rattle.std.proofs.Common.{get_or, map}
use Rattle.std.specs.Prelude.{Vec, Contains}
use Rattle.std.specs.List.{HoldsAt}
use Rattle.std.specs.List.Sorted.{IsStrictlyIncreasing}
use Rattle.std.specs.Global.{Global}
use Rattle.std.proofs.lemmas.Bool.{cases_lt}
use Rattle.std.proofs.lemmas.List.{get_or_append_left, get_or_push, length_push}
use Rattle.std.proofs.lemmas.List.Elements.{Contains-append_left, Contains-get_or, Contains-push, Contains-push_cases}
use Rattle.lab_ends.specs.ScheduleSpace.Spaces.{SpaceValue, count}
use Rattle.lab_ends.specs.SpaceEnds.Links.{link_of}
use Rattle.lab_ends.specs.SpaceEndsTypes.SpaceEnd.{SpaceEnd}
use Rattle.space_graphs.specs.Ahead.{AreAhead, AreMarks, IsMarkedIn, AreMarkNumbers}

some_of : {X : Type 0} → (xs : List X) (i : ℕ) → i < length xs → X
some_of [] i below = absurd (omega (arith, below))
some_of (x ∷ xs) i below = x

-- the numbers of the marks at which a place is marked are those of the ends that can still be reached from there
pub ahead_at : (v : SpaceValue) (ends : List SpaceEnd) (marks : List (Vec Bool Global)) (k : ℕ) (numbers : List ℕ)
    → AreMarks (count v) (map link_of v.edges) ends marks → k < count v → AreMarkNumbers marks k (length marks) numbers
    → AreAhead v ends k numbers
ahead_at v ends marks k numbers leads below are = record {
  sound = λ m there.
      let found = are.sound m there in
      let inside : found.0 < length ends = omega (arith, found.1, leads.many) in
      let mark = some_of marks found.0 found.1 in
      (found.0, inside, found.2, λ end. (leads.each found.0 inside mark end).sound k below (found.3 mark));
  all = λ i inside can.
      let end = some_of ends i inside in
      are.all i (omega (arith, inside, leads.many)) (λ mark. (leads.each i inside mark end).all k below (can end));
  order = are.order;
}

-- what is so of each element, of one more
pub each_more : {X : Type 0} (P : ℕ → X → Type 0) (xs : List X) (n : ℕ) (y : X) → length xs ≡ n
    → ((k : ℕ) → k < n → HoldsAt (P k) xs k) → P n y → (k : ℕ) → k < n + 1 → HoldsAt (P k) (xs ++ y ∷ []) k
each_more P xs n y many all here k below d = by_case (cases_lt k n) where
  by_case : (k < n) ⊎ (n ≤ k) → P k (get_or (xs ++ y ∷ []) k d)
  by_case (inl before) =
      subst (P k) (sym (get_or_append_left xs (y ∷ []) d k (omega (arith, before, many)))) (all k before d)
  by_case (inr behind) =
      let same : n ≡ k = omega (arith, below, behind) in
      subst (λ (j : ℕ). P j (get_or (xs ++ y ∷ []) j d)) same (subst (P n) (sym (get_or_push xs y d n many)) here)

-- ascending numbers, and one above all of them
increasing_more : (xs : List ℕ) (y : ℕ) → IsStrictlyIncreasing xs → ((m : ℕ) → Contains xs m → m < y)
    → IsStrictlyIncreasing (xs ++ y ∷ [])
increasing_more xs y rise above k inside = by_case (cases_lt (k + 1) (length xs)) where
  within : k + 1 < length xs + 1
  within = subst (λ (n : ℕ). k + 1 < n) (length_push xs y) inside

  here : get_or (xs ++ y ∷ []) k 0 ≡ get_or xs k 0
  here = get_or_append_left xs (y ∷ []) 0 k (omega (arith, within))

  by_case : (k + 1 < length xs) ⊎ (length xs ≤ k + 1) → get_or (xs ++ y ∷ []) k 0 < get_or (xs ++ y ∷ []) (k + 1) 0
  by_case (inl before) =
      let next = get_or_append_left xs (y ∷ []) 0 (k + 1) before in
      omega (arith, here, next, rise k before)
  by_case (inr last) =
      let many : length xs ≡ k + 1 = omega (arith, within, last) in
      let next = get_or_push xs y 0 (k + 1) many in
      omega (arith, here, next, above (get_or xs k 0) (Contains-get_or xs k 0 (omega (arith, within))))

-- the numbers of one mark more

pub marked_more : (marks : List (Vec Bool Global)) (k n : ℕ) (numbers : List ℕ) → AreMarkNumbers marks k n numbers
    → HoldsAt (IsMarkedIn k) marks n → AreMarkNumbers marks k (n + 1) (numbers ++ (n + 1) ∷ [])
marked_more marks k n numbers are marked = record {
  sound = λ m there. sound m (Contains-push_cases numbers (n + 1) m there);
  all = λ i below on. all i below on (cases_lt i n);
  order = increasing_more numbers (n + 1) are.order (λ m there. let found = are.sound m there in omega (arith, found.1, found.2));
} where
  sound : (m : ℕ) → Contains numbers m ⊎ (n + 1 ≡ m)
      → (i : ℕ) × (i < n + 1) × (m ≡ i + 1) × HoldsAt (IsMarkedIn k) marks i
  sound m (inl there) =
      let found = are.sound m there in
      (found.0, omega (arith, found.1), found.2, found.3)
  sound m (inr same) = (n, omega arith, sym same, marked)

  all : (i : ℕ) → i < n + 1 → HoldsAt (IsMarkedIn k) marks i → (i < n) ⊎ (n ≤ i) → Contains (numbers ++ (n + 1) ∷ []) (i + 1)
  all i below on (inl before) = Contains-append_left numbers ((n + 1) ∷ []) (i + 1) (are.all i before on)
  all i below on (inr behind) =
      let same : n ≡ i = omega (arith, below, behind) in
      subst (λ (j : ℕ). Contains (numbers ++ (n + 1) ∷ []) (j + 1)) same (Contains-push numbers (n + 1))

pub unmarked_more : (marks : List (Vec Bool Global)) (k n : ℕ) (numbers : List ℕ) → AreMarkNumbers marks k n numbers
    → (HoldsAt (IsMarkedIn k) marks n → ⊥) → AreMarkNumbers marks k (n + 1) numbers
unmarked_more marks k n numbers are off = record {
  sound = λ m there.
      let found = are.sound m there in
      (found.0, omega (arith, found.1), found.2, found.3);
  all = λ i below on. all i below on (cases_lt i n);
  order = are.order;
} where
  all : (i : ℕ) → i < n + 1 → HoldsAt (IsMarkedIn k) marks i → (i < n) ⊎ (n ≤ i) → Contains numbers (i + 1)
  all i below on (inl before) = are.all i before on
  all i below on (inr behind) =
      let same : i ≡ n = omega (arith, below, behind) in
      absurd (off (subst (HoldsAt (IsMarkedIn k) marks) same on))
