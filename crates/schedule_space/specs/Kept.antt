-- The machines that a search keeps: that of its first world, and those of few others.
use Rattle.std.specs.Prelude.{◌≡◌, ℕ, ◌<◌, ◌++◌, [], ◌∷◌, ◌⊎◌, List, Option, Some, map, All}
use Rattle.machine.specs.MachineValue.{MachineValue}
use Rattle.processor.specs.World.{after}
use Rattle.processor.specs.declared.steps.Step.{Step}
use Rattle.schedule_space.specs.Spaces.{SpaceValue, count, schedule_of, machine_after}

-- the machine of the first world, that of the world to which the search has come, where it is at hand, and those that are
-- kept of later worlds, with the places of these
pub record KeptValue : Type 0 where
  pub first : MachineValue
  pub here : Option MachineValue
  pub places : List ℕ
  pub waiting : List MachineValue

-- what is at hand, if anything is, is this machine
abbrev pub IsAtHand : MachineValue → Option MachineValue → Type 0
IsAtHand m o = (n : MachineValue) → o ≡ Some n → n ≡ m

-- the machine at a place
abbrev pub machine_at : SpaceValue → ℕ → MachineValue
machine_at v k = machine_after v.image (schedule_of v k)

-- The machines are those of the places of the space.
pub record AreKept (v : SpaceValue) (ms : KeptValue) : Type 0 where
  pub first : ms.first ≡ machine_after v.image v.begin
  pub each : ms.waiting ≡ map (machine_at v) ms.places
  pub there : All (λ k. k < count v) ms.places

-- so they are, and what is at hand is that of this place
pub record AreKeptAt (v : SpaceValue) (ms : KeptValue) (from : ℕ) : Type 0 where
  pub kept : AreKept v ms
  pub here : IsAtHand (machine_at v from) ms.here

-- nothing has changed but what is at hand
abbrev pub IsSameButHere : KeptValue → KeptValue → Type 0
IsSameButHere old new = new ≡ record old { here = new.here }

-- a machine behind a step
abbrev pub machine_next : MachineValue → Step → MachineValue
machine_next m u = record { image = m.image; world = after m.image m.world u }

-- nothing has changed, or this machine is kept for this place, behind the others
abbrev pub IsMachineMore : KeptValue → KeptValue → ℕ → MachineValue → Type 0
IsMachineMore old new place m =
    (new ≡ old) ⊎ (new ≡ record old { places = old.places ++ place ∷ []; waiting = old.waiting ++ m ∷ [] })
