-- The listed ends of a space that spin.
use Rattle.std.specs.Prelude.{◌≡◌, ℕ, ◌<◌, ◌⊎◌, Bool, true, false, List, length, map, slice_index_or}
use Rattle.std.specs.List.{All, filter}
use Rattle.end_kinds.specs.declared.kinds.EndKind.TheVariants as end
use Rattle.seed_verdicts.specs.ScheduleSpace.Spaces.{SpaceValue, count, world_of, IsComplete, HasAllEdges}
use Rattle.seed_verdicts.specs.ScheduleSpace.Followed.{AllFollowed}
use Rattle.seed_verdicts.specs.ScheduleSpace.Reaching.{CanEnd}
use Rattle.space_ends.specs.EndsOfSpace.{ListedEnd, listed_of}
use Rattle.space_ends.specs.declared.end_values.SpaceEnd.{SpaceEnd}
use Rattle.space_ends.specs.declared.end_values.SpaceEndKind.{SpaceEndKind}
use Rattle.space_ends.specs.declared.end_values.SpaceEndKind.TheVariants as kind

-- whether it goes on for ever from worlds of this kind
abbrev pub are_spinning : SpaceEndKind → Bool
are_spinning (kind.End end.Finished) = false
are_spinning (kind.End end.Stopped) = false
are_spinning (kind.End end.Deadlock) = false
are_spinning (kind.End end.Waiting) = false
are_spinning (kind.End end.Spinning) = true
are_spinning (kind.End end.Looping) = true
are_spinning (kind.End end.OutOfSteps) = false
are_spinning (kind.Broken claim) = false
are_spinning kind.Busy = false

-- those of some listed ends that spin
abbrev pub spinning_in : List SpaceEnd → List ListedEnd
spinning_in ends = filter (λ e. are_spinning e.kind) (map listed_of ends)

-- The world at this place of the space can reach no end.
pub record SpinsAt (v : SpaceValue) (k : ℕ) : Type 0 where
  pub within : k < count v
  pub never : ¬ (CanEnd v.image (world_of v k))

-- The space says of each of its worlds whether it can reach an end: it has all worlds and all steps between them, or all
-- that the ends need.
abbrev pub SaysWhatCanEnd : SpaceValue → Type 0
SaysWhatCanEnd v = (IsComplete v × HasAllEdges v) ⊎ AllFollowed v

-- They are the ends of the space that spin.
pub record AreSpinning (v : SpaceValue) (ends : List ListedEnd) : Type 0 where
  -- where some world of the space can reach no end, one is listed
  pub some : (k : ℕ) → SpinsAt v k → 0 < length ends
  -- where one is listed, some world can reach none
  pub only : SaysWhatCanEnd v → 0 < length ends → ((k : ℕ) × SpinsAt v k)
  -- the worlds of each can reach none
  pub each : SaysWhatCanEnd v → All (λ e. All (SpinsAt v) e.places) ends

-- For the code: of each place whether an end can be reached from it.

-- the place is one of them, from which no end can be reached
pub record IsUnmarked (marks : List Bool) (k : ℕ) : Type 0 where
  pub within : k < length marks
  pub is : slice_index_or marks k false ≡ false

abbrev pub SomeUnmarked : List Bool → Type 0
SomeUnmarked marks = (k : ℕ) × IsUnmarked marks k

-- so are all places of some listed ends
abbrev pub AreUnmarked : List Bool → List ListedEnd → Type 0
AreUnmarked marks ends = All (λ e. All (IsUnmarked marks) e.places) ends
