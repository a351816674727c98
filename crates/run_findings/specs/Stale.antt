-- The aid: the reads near a glimpse that may be torn from it.
use Rattle.std.specs.Prelude.{◌≡◌, ℕ, ◌<◌, ◌≤◌, Bool, if◌then◌else◌, List, [], ◌∷◌, ◌++◌, length, Option, Some, slice_index_or}
use Rattle.run_findings.specs.Found.{list_of, found_to}
use Rattle.run_findings.specs.TornReads.{other_half, torn_by_read}
use Rattle.run_findings.specs.declared.actions.Action.{Action}
use Rattle.run_findings.specs.declared.glimpse.Glimpse.{Glimpse}

-- what is found in each of these steps, in their order
abbrev pub found_in : {F : Type 0} → (ℕ → Option F) → List ℕ → List F
found_in at [] = []
found_in at (k ∷ ks) = list_of (at k) ++ found_in at ks

-- a step more, if it is one
abbrev pub with_look : Bool → List ℕ → ℕ → List ℕ
with_look t looks k = if t then looks ++ k ∷ [] else looks

-- steps of a run
abbrev pub AreWithin : List Action → List ℕ → Type 0
AreWithin ds looks = (n other : ℕ) → n < length looks → slice_index_or looks n other < length ds

-- none of these steps comes before the first of them
abbrev pub HasEarliestFirst : List ℕ → Type 0
HasEarliestFirst looks = (n other : ℕ) → n < length looks → slice_index_or looks 0 0 ≤ slice_index_or looks n other

-- in these steps all is found that is torn from a glimpse
pub record AreLooks (ds : List Action) (g : Glimpse) (looks : List ℕ) : Type 0 where
  pub within : AreWithin ds looks
  pub first : HasEarliestFirst looks
  pub all : (a k : ℕ) → other_half ds g k ≡ Some a
      → found_in (torn_by_read ds g a k) looks ≡ found_to (torn_by_read ds g a k) (length ds)
