-- The steps that values come from.
use Rattle.std.specs.Prelude.{◌≡◌, ℕ, ◌<◌, true, false, List, Option, Some, None, map}
use Rattle.std.specs.List.{All}
use Rattle.run_findings.specs.declared.actions.Action.{Action}
use Rattle.value_origins.specs.Locations.{writes_at, read_at}
use Rattle.value_origins.specs.declared.locations.Location.{Location}
use Rattle.value_origins.specs.declared.origins.Source.{Source}

-- step k is before step n and writes the location, and none between them does
pub record IsWriteBefore (ds : List Action) (l : Location) (n k : ℕ) : Type 0 where
  pub before : k < n
  pub writes : writes_at ds l k ≡ true
  pub last : (j : ℕ) → k < j → j < n → writes_at ds l j ≡ false

-- the last step before step n that writes the location; None where none does
abbrev pub IsLastWriter : List Action → Location → ℕ → Option ℕ → Type 0
IsLastWriter ds l n None = (j : ℕ) → j < n → writes_at ds l j ≡ false
IsLastWriter ds l n (Some k) = IsWriteBefore ds l n k

abbrev pub location_of : Source → Location
location_of s = s.location

-- the locations that step n read for what it wrote into a location, each with the last step before it that wrote it
pub record AreSources (ds : List Action) (l : Location) (n : ℕ) (found : List Source) : Type 0 where
  pub locations : map location_of found ≡ read_at ds l n
  pub steps : All (λ s. IsLastWriter ds s.location n s.step) found
