use Rattle.std.specs.Prelude.{◌≡◌, ◌<◌, ℕ, ⊤, List, Option, Some, None, slice_get}
use Rattle.class_results.specs.declared.merging.KeptPlace.{KeptPlace}
use Rattle.class_results.specs.declared.merging.MergeFault.{MergeFault}
use Rattle.class_results.specs.declared.merging.MergeFault.TheVariants as fault

-- The kept result at an index is of the submission of a place.
abbrev pub IsOf : List KeptPlace → ℕ → ℕ → Type 0
IsOf kept index place = (one : KeptPlace) × (slice_get kept index ≡ Some one) × (one.place ≡ place)

-- What a merged table of the first so many kept results has at a place: one of its submission, and nothing exactly where
-- none is of it.
abbrev pub IsFoundAt : List KeptPlace → ℕ → ℕ → Option ℕ → Type 0
IsFoundAt kept many place (Some index) = (index < many) × IsOf kept index place
IsFoundAt kept many place None = (index : ℕ) → index < many → IsOf kept index place → ⊥

-- Two kept results say the same: they rest on the same checksums, and their rows are the same.
abbrev pub AreSame : KeptPlace → KeptPlace → Type 0
AreSame one other = (one.basis ≡ other.basis) × (one.row ≡ other.row)

-- a kept result, which is there, says the same as this one
abbrev pub SaysSame : Option KeptPlace → KeptPlace → Type 0
SaysSame None other = ⊥
SaysSame (Some one) other = AreSame one other

-- what is known of a submission, if anything is, says the same as this one
abbrev pub AgreesWith : List KeptPlace → Option ℕ → KeptPlace → Type 0
AgreesWith kept None other = ⊤
AgreesWith kept (Some index) other = SaysSame (slice_get kept index) other

-- Of the first so many kept results any two of one submission say the same, where it is among the first so many.
abbrev pub AreAlike : List KeptPlace → ℕ → ℕ → Type 0
AreAlike kept many count =
    (i j : ℕ) (one other : KeptPlace) → i < many → j < many → slice_get kept i ≡ Some one → slice_get kept j ≡ Some other
    → one.place ≡ other.place → one.place < count → AreSame one other

-- Two kept results of one submission do not say the same, the earlier of them first.
pub record DoDiffer (kept : List KeptPlace) (count one other : ℕ) : Type 0 where
  pub first : KeptPlace
  pub second : KeptPlace
  pub order : one < other
  pub there : slice_get kept one ≡ Some first
  pub here : slice_get kept other ≡ Some second
  pub place : first.place ≡ second.place
  pub within : first.place < count
  pub differ : AreSame first second → ⊥

-- why there is no table
abbrev pub IsReasonOf : List KeptPlace → ℕ → MergeFault → Type 0
IsReasonOf kept count (fault.Differ one other) = DoDiffer kept count one other
IsReasonOf kept count fault.NoMemory = ⊤
