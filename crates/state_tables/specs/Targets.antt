-- Where the steps of a stream lead.
use Rattle.std.specs.Prelude.{◌≡◌, ℕ, ◌<◌, ◌⊎◌, List, length, slice_index_or, Contains}
use Rattle.processor.specs.World.{after}
use Rattle.processor.specs.declared.steps.Step.{Step}
use Rattle.schedule_space.specs.declared.links.Edge.{Edge}
use Rattle.schedule_space.specs.Spaces.{SpaceValue, count, world_of}

-- the edge by the step of a stream from one place to another
abbrev pub edge_by : Step → ℕ → ℕ → Edge
edge_by t from to = record { from = from; step = t; to = to }

-- where the edges lead by the step of a stream from a place: the place itself if there is none for it
abbrev pub IsTarget : List Edge → Step → ℕ → ℕ → Type 0
IsTarget edges t k to = Contains edges (edge_by t k to) ⊎ ((to ≡ k) × ((j : ℕ) → ¬ (Contains edges (edge_by t k j))))

-- the same of each of so many places
pub record AreTargets (n : ℕ) (edges : List Edge) (t : Step) (targets : List ℕ) : Type 0 where
  pub many : length targets ≡ n
  pub each : (k : ℕ) → k < n → IsTarget edges t k (slice_index_or targets k 0)

-- the step of a stream leads from the state at a place to that at the other, which is the same if it changes nothing
pub record IsLedTo (v : SpaceValue) (k : ℕ) (t : Step) (to : ℕ) : Type 0 where
  pub there : to < count v
  pub leads : world_of v to ≡ after v.image (world_of v k) t

-- In the making.

-- each number is its own place, so many
pub record ArePlaces (n : ℕ) (places : List ℕ) : Type 0 where
  pub many : length places ≡ n
  pub each : (k : ℕ) → k < n → slice_index_or places k 0 ≡ k

-- what stood at a place is where the edge leads if it is of that place and stream, else as it was
abbrev pub IsFollowed : Edge → Step → ℕ → ℕ → ℕ → Type 0
IsFollowed e t k old new = (e ≡ edge_by t k new) ⊎ ((new ≡ old) × ((j : ℕ) → ¬ (e ≡ edge_by t k j)))
