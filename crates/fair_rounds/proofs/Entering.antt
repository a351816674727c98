-- After the places that ways come to, those at which they come in next.
use Rattle.std.proofs.Common.{◌≡◌, inl, inr, ℕ, zero, suc, ◌<◌, ◌+◌, sym, ap, subst, arith, Bool, true, false, ◌&&◌, not}
use Rattle.std.proofs.Common.{List, [], ◌∷◌, length, filter, if◌then◌else◌, slice_index_or}
use Rattle.std.specs.List.{list_any}
use Rattle.std.proofs.lemmas.Bool.{cases_Bool, cases_lt}
use Rattle.fair_rounds.specs.declared.graphs.Edge.{Edge}
use Rattle.fair_rounds.specs.Rounds.{IsIn, IsWalk}
use Rattle.fair_rounds.specs.Classes.{IsEmpty}
use Rattle.fair_rounds.specs.Lassos.{IsClosed}
use Rattle.fair_rounds.specs.Entries.{is_entry, entries, EntersAtMost, CanEnter, enters_out, HasEntered}
use Rattle.fair_rounds.proofs.Lists.{apart, none_here}
use Rattle.fair_rounds.proofs.Bypassing.{inside_by}

-- an edge that comes in counts, another one does not
counted : (inside : List Bool) (e : Edge) (es : List Edge) (b : Bool) → is_entry inside e ≡ b
    → entries inside (e ∷ es) ≡ length (if b then e ∷ filter (is_entry inside) es else filter (is_entry inside) es)
counted inside e es b is = ap (λ (c : Bool). length (if c then e ∷ filter (is_entry inside) es else filter (is_entry inside) es)) is

module _ (edges : List Edge) (set inside marks next : List Bool) where
  pub entered_by : list_any (enters_out set inside marks next) edges ≡ false → HasEntered edges set inside marks next
  entered_by none e there within from is = elim (cases_Bool (slice_index_or next e.to false)) [
    | inl marked ↦ marked
    | inr out ↦
        absurd (apart (enters_out set inside marks next e) (none_here (enters_out set inside marks next) edges e none there)
        (λ i. within i && (from i && is i) && not (out i)))
  ]

  module _ (begins : List Bool) (closed : IsClosed edges set begins marks) (entered : HasEntered edges set inside marks next)
      (many : ℕ) where
    -- a way from a marked place with one entry more comes in next
    from_marked : (es : List Edge) (k to : ℕ) → IsIn marks k → IsWalk edges set k es to → many < entries inside es
        → CanEnter edges set next inside many
    from_marked [] k to here walk more = absurd (omega (arith, more))
    from_marked (e ∷ es) k to here walk more =
        let from : IsIn marks e.from = subst (IsIn marks) (sym walk.0.from_is) here in
        let within = inside_by edges set e k walk.0 in
        elim (cases_Bool (is_entry inside e)) [
          | inl is ↦
              let one = counted inside e es true is in
              (e.to, es, to, entered e walk.0.there within from is, walk.1, omega (arith, more, one))
          | inr none ↦
              let same = counted inside e es false none in
              from_marked es e.to to (closed.stays e walk.0.there within from) walk.1 (omega (arith, more, same))
        ]

    pub enters_next : CanEnter edges set begins inside (suc many) → CanEnter edges set next inside many
    enters_next (k, way, to, begun, walk, all) =
        from_marked way k to (closed.begun k begun) walk (omega (arith, all))

-- One level after the other.

-- if a way from the first places comes in more than so many times, one comes in as often as is left from the places of a level
abbrev pub IsLevel : List Edge → List Bool → List Bool → List Bool → ℕ → ℕ → List Bool → Type 0
IsLevel edges set first inside most level begins =
    CanEnter edges set first inside (suc most)
    → (left : ℕ) × (level + left ≡ suc most) × CanEnter edges set begins inside left

module _ (edges : List Edge) (set first inside : List Bool) (most : ℕ) where
  pub first_level : IsLevel edges set first inside most 0 first
  first_level can = (suc most, omega arith, can)

  module _ (level : ℕ) (within : level < suc most) (begins marks next : List Bool)
      (closed : IsClosed edges set begins marks) (entered : HasEntered edges set inside marks next)
      (is : IsLevel edges set first inside most level begins) where
    pub next_level : IsLevel edges set first inside most (level + 1) next
    next_level can = by (is can) where
      by : (left : ℕ) × (level + left ≡ suc most) × CanEnter edges set begins inside left
          → (left : ℕ) × ((level + 1) + left ≡ suc most) × CanEnter edges set next inside left
      by (zero, sum, enters) = absurd (omega (arith, within, sum))
      by (suc left, sum, enters) =
          (left, omega (arith, sum), enters_next edges set inside marks next begins closed entered left enters)

    -- where none is next, no way comes in so often
    pub at_most : IsEmpty next → EntersAtMost edges set first inside most
    at_most none k way to begun walk = elim (cases_lt most (entries inside way)) [
      | inl many ↦
          let got = next_level (k, way, to, begun, walk, omega (arith, many)) in
          absurd (none got.2.0 got.2.3)
      | inr few ↦ few
    ]
