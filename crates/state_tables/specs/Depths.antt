-- How many steps states are away from the start.
use Rattle.std.specs.Prelude.{◌≡◌, ℕ, ◌-◌, ◌<◌, List, length, slice_index_or}
use Rattle.schedule_space.specs.Spaces.{SpaceValue, schedule_of}

-- the steps of the schedule of the state at a place, but for those that all begin with
abbrev pub depth_in : SpaceValue → ℕ → ℕ
depth_in v k = length (schedule_of v k) - length v.begin

-- those of the first states, so many
pub record AreDepths (v : SpaceValue) (n : ℕ) (depths : List ℕ) : Type 0 where
  pub many : length depths ≡ n
  pub each : (k : ℕ) → k < n → slice_index_or depths k 0 ≡ depth_in v k
