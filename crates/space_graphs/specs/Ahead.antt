-- Which ends can still be reached from the worlds of a space.
use Rattle.std.specs.Prelude.{◌≡◌, ℕ, ◌+◌, ◌<◌, Bool, List, length, map, Contains, Vec}
use Rattle.std.specs.List.{HoldsAt}
use Rattle.std.specs.List.Sorted.{IsStrictlyIncreasing}
use Rattle.std.specs.Global.{Global}
use Rattle.terminal_components.specs.declared.links.Link.{Link}
use Rattle.terminal_components.specs.Reachability.{AreBackwardReachable, IsMarked, ReachesOne}
use Rattle.lab_ends.specs.ScheduleSpace.Spaces.{SpaceValue, count}
use Rattle.lab_ends.specs.SpaceEnds.Links.{link_of}
use Rattle.lab_ends.specs.SpaceEndsTypes.SpaceEnd.{SpaceEnd}

-- from the world at a place some steps between worlds of the space, or none, lead to one of the end
abbrev pub CanStillCome : SpaceValue → ℕ → SpaceEnd → Type 0
CanStillCome v k end = ReachesOne (count v) (map link_of v.edges) end.places.items k

-- These are the numbers of the ends, which count from 1, that can still be reached from the world at a place: each once,
-- in ascending order.
pub record AreAhead (v : SpaceValue) (ends : List SpaceEnd) (k : ℕ) (numbers : List ℕ) : Type 0 where
  pub sound :
      (m : ℕ) → Contains numbers m
      → (i : ℕ) × (i < length ends) × (m ≡ i + 1) × HoldsAt (CanStillCome v k) ends i
  pub all : (i : ℕ) → i < length ends → HoldsAt (CanStillCome v k) ends i → Contains numbers (i + 1)
  pub order : IsStrictlyIncreasing numbers

-- those of each world
pub record AreEndsAhead (v : SpaceValue) (ends : List SpaceEnd) (ahead : List (Vec ℕ Global)) : Type 0 where
  pub many : length ahead ≡ count v
  pub each : (k : ℕ) → k < count v → HoldsAt (λ w. AreAhead v ends k w.items) ahead k

-- the marks are those of the places that lead to one of the end with a number, which counts from 0
abbrev pub IsOfEnd : ℕ → List Link → List SpaceEnd → ℕ → Vec Bool Global → Type 0
IsOfEnd n links ends i mark = HoldsAt (λ end. AreBackwardReachable n links end.places.items mark.items) ends i

-- for each end there are such marks
pub record AreMarks (n : ℕ) (links : List Link) (ends : List SpaceEnd) (marks : List (Vec Bool Global)) : Type 0 where
  pub many : length marks ≡ length ends
  pub each : (i : ℕ) → i < length ends → HoldsAt (IsOfEnd n links ends i) marks i

-- the place is marked
abbrev pub IsMarkedIn : ℕ → Vec Bool Global → Type 0
IsMarkedIn k mark = IsMarked mark.items k

-- The numbers, which count from 1, of the first n marks at which a place is marked: each once, in ascending order.
pub record AreMarkNumbers (marks : List (Vec Bool Global)) (k n : ℕ) (numbers : List ℕ) : Type 0 where
  pub sound : (m : ℕ) → Contains numbers m → (i : ℕ) × (i < n) × (m ≡ i + 1) × HoldsAt (IsMarkedIn k) marks i
  pub all : (i : ℕ) → i < n → HoldsAt (IsMarkedIn k) marks i → Contains numbers (i + 1)
  pub order : IsStrictlyIncreasing numbers

-- the same of all marks, as a vector
abbrev pub AreNumbersIn : List (Vec Bool Global) → ℕ → Vec ℕ Global → Type 0
AreNumbersIn marks k numbers = AreMarkNumbers marks k (length marks) numbers.items
