-- Walks within a set, and what is on them.
use Rattle.std.proofs.Common.{◌≡◌, ◌⊎◌, inl, inr, ℕ, zero, suc, ◌<◌, refl, sym, subst, arith, Bool, List, [], ◌∷◌, ◌++◌, length, Contains}
use Rattle.fair_rounds.specs.declared.graphs.Edge.{Edge}
use Rattle.fair_rounds.specs.Rounds.{IsIn, IsEdge, IsWalk, Passes}

-- The items of a list.

pub head_in : {X : Type 0} (x : X) (xs : List X) → Contains (x ∷ xs) x
head_in x xs = (0, omega arith, refl)

pub tail_in : {X : Type 0} (x y : X) (xs : List X) → Contains xs y → Contains (x ∷ xs) y
tail_in x y xs there = (suc there.0, omega (arith, there.1), there.2)

pub split_in : {X : Type 0} (x y : X) (xs : List X) → Contains (x ∷ xs) y → (x ≡ y) ⊎ Contains xs y
split_in x y xs (zero, within, at) = inl at
split_in x y xs (suc k, within, at) = inr (k, omega (arith, within), at)

pub none_in : {X : Type 0} (x : X) → Contains [] x → ⊥
none_in x there = let below = there.1 in omega (arith, below)

-- a place can reach another one within the set
abbrev pub Walks : List Edge → List Bool → ℕ → ℕ → Type 0
Walks edges set from to = (es : List Edge) × IsWalk edges set from es to

-- the edge is on a walk from one place to another one
pub record IsOn (edges : List Edge) (set : List Bool) (from to : ℕ) (e : Edge) : Type 0 where
  pub is : IsEdge edges set e.from e
  pub before : Walks edges set from e.from
  pub after : Walks edges set e.to to

-- the place is in the set, and each of both can reach the other one
pub record IsTied (edges : List Edge) (set : List Bool) (place k : ℕ) : Type 0 where
  pub there : IsIn set k
  pub forth : Walks edges set place k
  pub back : Walks edges set k place

module _ (edges : List Edge) (set : List Bool) where
  -- one walk after the other
  pub walk_append : (xs ys : List Edge) (from over to : ℕ) → IsWalk edges set from xs over → IsWalk edges set over ys to
      → IsWalk edges set from (xs ++ ys) to
  walk_append [] ys from over to first second = subst (λ (k : ℕ). IsWalk edges set k ys to) (sym first) second
  walk_append (e ∷ es) ys from over to first second = (first.0, walk_append es ys e.to over to first.1 second)

  pub walks_on : (a b c : ℕ) → Walks edges set a b → Walks edges set b c → Walks edges set a c
  walks_on a b c first second = (first.0 ++ second.0, walk_append first.0 second.0 a b c first.1 second.1)

  pub walks_edge : (a : ℕ) (e : Edge) → IsEdge edges set a e → Walks edges set a e.to
  walks_edge a e is = (e ∷ [], (is, refl))

  on_behind : (x : Edge) (from to : ℕ) (e : Edge) → IsEdge edges set from x → IsOn edges set x.to to e
      → IsOn edges set from to e
  on_behind x from to e first rest =
      record { is = rest.is; before = (x ∷ rest.before.0, (first, rest.before.1)); after = rest.after }

  -- each edge of a walk is on it
  pub walk_on : (es : List Edge) (from to : ℕ) (e : Edge) → IsWalk edges set from es to → Contains es e
      → IsOn edges set from to e
  walk_on [] from to e walk there = absurd (none_in e there)
  walk_on (x ∷ xs) from to e walk there = elim (split_in x e xs there) [
    | inl same ↦ subst (IsOn edges set from to) same (record {
      is = subst (λ (k : ℕ). IsEdge edges set k x) (sym walk.0.from_is) walk.0;
      before = ([], sym walk.0.from_is);
      after = (xs, walk.1);
    })
    | inr inner ↦ on_behind x from to e walk.0 (walk_on xs x.to to e walk.1 inner)
  ]

  -- so is each place that a closed walk goes through
  pub round_passed : (round : List Edge) (place k : ℕ) → IsWalk edges set place round place → Passes round k
      → IsTied edges set place k
  round_passed round place k walk passed = subst (IsTied edges set place) passed.2 (record {
    there = on.is.from_in;
    forth = on.before;
    back = walks_on passed.0.from passed.0.to place (walks_edge passed.0.from passed.0 on.is) on.after;
  }) where
    on : IsOn edges set place place passed.0
    on = walk_on round place place passed.0 walk passed.1

  -- a closed walk of some edge goes through its beginning
  pub start_passed : (round : List Edge) (from to : ℕ) → IsWalk edges set from round to → 0 < length round
      → Passes round from
  start_passed [] from to walk some = absurd (omega (arith, some))
  start_passed (e ∷ es) from to walk some = (e, head_in e es, walk.0.from_is)

  -- which is in the set
  pub start_in : (round : List Edge) (from to : ℕ) → IsWalk edges set from round to → 0 < length round → IsIn set from
  start_in [] from to walk some = absurd (omega (arith, some))
  start_in (e ∷ es) from to walk some = walk.0.from_in
