-- Streams that loop alone in the worlds of a space.
use Rattle.std.specs.Prelude.{◌≡◌, ℕ, ◌<◌, Some, slice_get}
use Rattle.processor.specs.declared.steps.Step.{Step}
use Rattle.waiting.specs.Running.{running_steps}
use Rattle.schedule_space.specs.Spaces.{SpaceValue, count, world_of, IsComplete, IsDistinct, HasAllEdges}
use Rattle.busy_streams.specs.declared.busy_worlds.Busy.{Busy}
use Rattle.busy_streams.specs.Busy.{IsShortestCycle, IsBusy}

-- the space has each world that a schedule leads to, once, with each step that leads from one to another
pub record HasAllWorlds (v : SpaceValue) : Type 0 where
  pub complete : IsComplete v
  pub edges : HasAllEdges v
  pub distinct : IsDistinct v

-- the stream loops alone from the world at a place
abbrev pub IsBusyAt : SpaceValue → ℕ → Step → Type 0
IsBusyAt v k t = IsBusy v.image (world_of v k) t

-- no stream does from any world of the space
abbrev pub HasNoneBusy : SpaceValue → Type 0
HasNoneBusy v = (k : ℕ) → k < count v → (t : Step) → ¬ (IsBusyAt v k t)

-- The stream does from the world at the place, in so many steps, and in no fewer. None does from an earlier world, and
-- from this one none does that runs and stands before it in the order of processor and stream.
pub record IsFirstBusy (v : SpaceValue) (b : Busy) : Type 0 where
  pub there : b.place < count v
  pub busy : IsBusyAt v b.place b.stream
  pub cycle : IsShortestCycle v.image (world_of v b.place) b.stream b.steps
  pub earlier : (k : ℕ) → k < b.place → (t : Step) → ¬ (IsBusyAt v k t)
  pub index : ℕ
  pub at : slice_get (running_steps (world_of v b.place)) index ≡ Some b.stream
  pub before : (i : ℕ) (t : Step) → i < index → slice_get (running_steps (world_of v b.place)) i ≡ Some t
      → ¬ (IsBusyAt v b.place t)
