-- Worlds that were found by steps, of which one stands for all that are alike: they are alike where R says so. With
-- equality for R each stands for itself alone.
use Rattle.std.specs.Prelude.{◌≡◌, ℕ, ◌+◌, ◌<◌, ◌≤◌, ◌⊎◌, List, length}
use Rattle.std.specs.List.{Contains}
use Rattle.image_file.specs.ImageValue.{ImageValue}
use Rattle.processor.specs.World.{World, after, steps}
use Rattle.processor.specs.declared.steps.Step.{Step}
use Rattle.waiting.specs.Stuck.{SomeRuns, IsStandstill}
use Rattle.same_futures.specs.LocalSteps.FreeSteps.{IsFreeStep}
use Rattle.agreeing_ends.specs.FirstSets.{IsFirstSet}
use Rattle.program_flow.specs.Agreeing.{TellsFlow}
use Rattle.same_futures.specs.Links.{TellsHandlers}

-- a world at which a run ends: no stream runs, or it is a standstill
abbrev pub IsEnd : ImageValue → World → Type 0
IsEnd image w = (¬ (SomeRuns w)) ⊎ IsStandstill image w

-- some schedule leads from the world to an end
abbrev pub CanEnd : ImageValue → World → Type 0
CanEnd image w = (ts : List Step) × IsEnd image (steps image w ts)

-- worlds of an image by place, the first of them at 0, and how many steps lead to each
pub record FoundWorlds : Type 0 where
  pub image : ImageValue
  pub count : ℕ
  pub world : ℕ → World
  pub depth : ℕ → ℕ

-- A step from the world at this place leads to a world for which one of them stands, by at most one step more.
pub record IsTaken (R : World → World → Type 0) (v : FoundWorlds) (from : ℕ) (t : Step) : Type 0 where
  pub to : ℕ
  pub within : to < v.count
  pub leads : R (v.world to) (after v.image (v.world from) t)
  pub near : v.depth to ≤ v.depth from + 1

-- so does each step from there
abbrev pub IsExpanded : (World → World → Type 0) → FoundWorlds → ℕ → Type 0
IsExpanded R v k = (t : Step) → IsTaken R v k t

-- so does one that can be taken before all others
pub record IsTakenAlone (R : World → World → Type 0) (v : FoundWorlds) (from : ℕ) : Type 0 where
  pub step : Step
  pub alone : IsFreeStep v.image (v.world from) step
  pub taken : IsTaken R v from step

-- so does each step of a set that can be taken before all others
pub record IsTakenTogether (R : World → World → Type 0) (v : FoundWorlds) (from : ℕ) : Type 0 where
  pub set : List Step
  pub first : IsFirstSet R v.image (v.world from) set
  pub taken : (t : Step) → Contains set t → IsTaken R v from t

-- each step from each of them is taken
abbrev pub AllExpanded : (World → World → Type 0) → FoundWorlds → Type 0
AllExpanded R v = (k : ℕ) → k < v.count → IsExpanded R v k

-- each step is, or those of a set that can be taken before all others
abbrev pub AllFollowed : (World → World → Type 0) → FoundWorlds → Type 0
AllFollowed R v = (k : ℕ) → k < v.count → IsExpanded R v k ⊎ IsTakenTogether R v k

-- One of them stands for the world, to which so many steps lead at most.
pub record StandsFor (R : World → World → Type 0) (v : FoundWorlds) (w : World) (most : ℕ) : Type 0 where
  pub place : ℕ
  pub below : place < v.count
  pub stands : R (v.world place) w
  pub short : v.depth place ≤ most

-- the world after these steps from the first one
abbrev pub world_after : FoundWorlds → List Step → World
world_after v ts = steps v.image (v.world 0) ts

-- one stands for each world that a schedule leads to from the first one, and no more steps lead to it
abbrev pub HasAllWorlds : (World → World → Type 0) → FoundWorlds → Type 0
HasAllWorlds R v = (ts : List Step) → StandsFor R v (world_after v ts) (v.depth 0 + length ts)

-- the same of each end
abbrev pub HasAllEnds : (World → World → Type 0) → FoundWorlds → Type 0
HasAllEnds R v =
    (ts : List Step) → IsEnd v.image (world_after v ts) → StandsFor R v (world_after v ts) (v.depth 0 + length ts)

-- none stands for another one of them
abbrev pub IsDistinct : (World → World → Type 0) → FoundWorlds → Type 0
IsDistinct R v = (j k : ℕ) → j < v.count → k < v.count → R (v.world j) (v.world k) → j ≡ k

-- no schedule to an end for which one of them stands has fewer steps than lead to that
abbrev pub HasShortestEnds : (World → World → Type 0) → FoundWorlds → Type 0
HasShortestEnds R v =
    (k : ℕ) → k < v.count → IsEnd v.image (v.world k)
    → (ts : List Step) → R (v.world k) (world_after v ts) → v.depth k ≤ v.depth 0 + length ts

-- where an end can be reached from each of them, one can be from each world that a schedule leads to
abbrev pub TellsWhetherAllEnd : FoundWorlds → Type 0
TellsWhetherAllEnd v =
    ((k : ℕ) → k < v.count → CanEnd v.image (v.world k)) → (ts : List Step) → CanEnd v.image (world_after v ts)

-- There is a first one. What is live is all that may be read from each place of the image's program on, and what is asked
-- for each condition code that may be; where a trap of a running stream has a handler, in a world that one of them leads
-- to, `handled` says so.
pub record IsGrounded (handled : Type 0) (named : ℕ → Type 0) (live asked : ℕ → ℕ → Type 0) (v : FoundWorlds) : Type 0 where
  pub some : 0 < v.count
  pub closed : TellsFlow v.image.profile v.image.program handled named live asked
  pub told : (k : ℕ) → k < v.count → (ts : List Step) → TellsHandlers handled (steps v.image (v.world k) ts)
