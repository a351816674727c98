-- What a search answers.
use Rattle.std.specs.Prelude.{◌≡◌, ℕ, min, Bool, true, false, Option, Some, None}
use Rattle.schedule_space.specs.Spaces.{SpaceValue, count, LacksStandIn}
use Rattle.schedule_space.specs.declared.watches.Bound.{Bound}
use Rattle.schedule_space.specs.declared.explorations.Exploration.{Exploration}
use Rattle.schedule_space.specs.declared.explorations.Exploration.TheVariants.{Complete, Bounded}

-- the space that was found
abbrev pub space_in : Exploration → SpaceValue
space_in (Complete v) = v
space_in (Bounded v b) = v

-- whether it is said to be complete
abbrev pub is_complete : Exploration → Bool
is_complete (Complete v) = true
is_complete (Bounded v b) = false

-- what ended the search before its end
abbrev pub bound_in : Exploration → Option Bound
bound_in (Complete v) = None
bound_in (Bounded v b) = Some b

-- how many worlds a search finds at most that may find so many: places are numbers of 32 bits
abbrev pub most_places : ℕ → ℕ
most_places most = min most 4294967295

-- The search has found as many worlds as it may, and there are more.
pub record IsFull (v : SpaceValue) (most : ℕ) : Type 0 where
  pub many : count v ≡ most_places most
  pub more : LacksStandIn v
