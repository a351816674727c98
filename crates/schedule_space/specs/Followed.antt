-- Spaces that have all ends, but not all worlds: of the steps from a world those of a set may be taken alone that can be
-- taken before all others, and one world may stand for many.
use Rattle.std.specs.List.{Contains}
use Rattle.std.specs.Prelude.{ℕ, ◌<◌, ◌≤◌, ◌++◌, ◌⊎◌, List, length}
use Rattle.processor.specs.World.{run}
use Rattle.processor.specs.declared.steps.Step.{Step}
use Rattle.world_keys.specs.DeadRegisters.Clearing.{AgreeBy}
use Rattle.agreeing_ends.specs.FirstSets.{IsFirstSet}
use Rattle.schedule_space.specs.Spaces.{SpaceValue, count, schedule_of, world_of, StandsFor, HasStandIn}
use Rattle.schedule_space.specs.Reaching.{IsEnd, CanEnd}
use Rattle.schedule_space.specs.Finding.{IsTaken, IsExpanded}

-- the steps of a set from the world at this place are taken, which can be taken before all others and lead to worlds that
-- agree
pub record IsTakenTogether (v : SpaceValue) (from : ℕ) : Type 0 where
  pub set : List Step
  pub first : IsFirstSet (AgreeBy v.live) v.image (world_of v from) set
  pub taken : (t : Step) → Contains set t → IsTaken v from t

-- each step from the world at this place is taken, or those of a set that can be taken before all others
abbrev pub IsFollowed : SpaceValue → ℕ → Type 0
IsFollowed v k = IsExpanded v k ⊎ IsTakenTogether v k

-- that holds of each world of the space
abbrev pub AllFollowed : SpaceValue → Type 0
AllFollowed v = (k : ℕ) → k < count v → IsFollowed v k

-- some world of the space stands for each end that a schedule leads to which goes on from the beginning
abbrev pub HasAllEnds : SpaceValue → Type 0
HasAllEnds v = (ts : List Step) → IsEnd v.image (run v.image (v.begin ++ ts)) → HasStandIn v (run v.image (v.begin ++ ts))

-- no schedule that goes on from the beginning to a world for which an end of the space stands is shorter than the one that
-- the links give for that
abbrev pub HasShortestEnds : SpaceValue → Type 0
HasShortestEnds v =
    (k : ℕ) → k < count v → IsEnd v.image (world_of v k)
    → (ts : List Step) → StandsFor v k (run v.image (v.begin ++ ts))
    → length (schedule_of v k) ≤ length (v.begin ++ ts)

-- where an end can be reached from each world of the space, one can be from each world that a schedule leads to which
-- goes on from the beginning
abbrev pub TellsWhetherAllEnd : SpaceValue → Type 0
TellsWhetherAllEnd v =
    ((k : ℕ) → k < count v → CanEnd v.image (world_of v k))
    → (ts : List Step) → CanEnd v.image (run v.image (v.begin ++ ts))
