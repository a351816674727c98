-- Worlds that were found by steps; where only those of a set were taken, one of them can't be seen by what is claimed, P. They are alike
-- where R says so. With equality for R each stands for itself alone.
use Rattle.std.specs.Prelude.{ℕ, ◌<◌, ◌≢◌, ◌⊎◌, ⊤, List, [], ◌∷◌}
use Rattle.std.specs.List.{Contains}
use Rattle.image_file.specs.ImageValue.{ImageValue}
use Rattle.processor.specs.World.{World, after, steps}
use Rattle.processor.specs.declared.steps.Step.{Step}
use Rattle.same_futures.specs.LocalSteps.FreeSteps.{IsFreeStep}
use Rattle.agreeing_ends.specs.FirstSets.{AreOutside}
use Rattle.agreeing_ends.specs.Followed.{FoundWorlds, IsTaken, IsExpanded, IsTakenTogether, world_after}

-- Worlds that are alike still are after the same schedule, where a schedule leads to one of them from one that was found.
pub record IsMoving (R : World → World → Type 0) (v : FoundWorlds) : Type 0 where
  pub on : (k : ℕ) → k < v.count → (us : List Step) (w : World) (ts : List Step) → R (steps v.image (v.world k) us) w
      → R (steps v.image (steps v.image (v.world k) us) ts) (steps v.image w ts)

-- each of these steps is another one
abbrev pub AreOthers : Step → List Step → Type 0
AreOthers t [] = ⊤
AreOthers t (u ∷ us) = (u ≢ t) × AreOthers t us

-- Where what is claimed holds after the step it holds before it, in the world and wherever other steps lead from there.
abbrev pub IsUnseen : (World → Type 0) → ImageValue → World → Step → Type 0
IsUnseen P image w t =
    (ts : List Step) → AreOthers t ts → P (after image (steps image w ts) t) → P (steps image w ts)

-- One step is taken from the world at this place, which can be taken before all others, leads to a later place, and
-- can't be seen.
pub record IsTakenUnseen (R : World → World → Type 0) (P : World → Type 0) (v : FoundWorlds) (from : ℕ) : Type 0 where
  pub step : Step
  pub alone : IsFreeStep v.image (v.world from) step
  pub taken : IsTaken R v from step
  pub later : from < taken.to
  pub unseen : IsUnseen P v.image (v.world from) step

-- Those of a set are taken from the world at this place, which can be taken before all others. One of them leads to a
-- later place, and can't be seen after schedules of others.
pub record IsTakenTogetherUnseen (R : World → World → Type 0) (P : World → Type 0) (v : FoundWorlds) (from : ℕ) : Type 0 where
  pub together : IsTakenTogether R v from
  pub step : Step
  pub there : Contains together.set step
  pub taken : IsTaken R v from step
  pub later : from < taken.to
  pub unseen : (us : List Step) → AreOutside together.set us
      → P (after v.image (steps v.image (v.world from) us) step) → P (steps v.image (v.world from) us)

-- each step from each of them is taken, or those of a set of which one can't be seen
abbrev pub AllFollowedUnseen : (World → World → Type 0) → (World → Type 0) → FoundWorlds → Type 0
AllFollowedUnseen R P v = (k : ℕ) → k < v.count → IsExpanded R v k ⊎ IsTakenTogetherUnseen R P v k

-- what is claimed holds of worlds that are alike alike
abbrev pub IsRespected : (World → World → Type 0) → (World → Type 0) → Type 0
IsRespected R P = (a b : World) → R a b → P a → P b

-- what is claimed holds of each of them
abbrev pub HoldsOfFound : (World → Type 0) → FoundWorlds → Type 0
HoldsOfFound P v = (k : ℕ) → k < v.count → P (v.world k)

-- what is claimed holds of each world that a schedule leads to
abbrev pub HoldsWherever : (World → Type 0) → FoundWorlds → Type 0
HoldsWherever P v = (ts : List Step) → P (world_after v ts)
