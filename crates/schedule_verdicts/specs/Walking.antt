-- A walk through a space: machines at its places, and steps that lead on.
use Rattle.std.specs.Prelude.{◌≡◌, ℕ, ◌<◌, List, Option, Some}
use Rattle.std.specs.List.{All}
use Rattle.processor.specs.World.{after}
use Rattle.processor.specs.declared.steps.Step.{Step}
use Rattle.machine.specs.MachineValue.{MachineValue}
use Rattle.busy_streams.specs.ScheduleSpaceTypes.Edge.{Edge}
use Rattle.busy_streams.specs.ScheduleSpace.Spaces.{SpaceValue, count, StandsFor}

-- The machine is one of the space's image, and the world at this place stands for its own.
pub record IsAt (v : SpaceValue) (place : ℕ) (m : MachineValue) : Type 0 where
  pub there : place < count v
  pub image : m.image ≡ v.image
  pub stands : StandsFor v place m.world

-- a machine after one step more
abbrev pub machine_next : MachineValue → Step → MachineValue
machine_next m t = record { image = m.image; world = after m.image m.world t }

-- a walk through the worlds of a space: the place to which it has come, and a machine there
pub record WalkValue : Type 0 where
  pub space : SpaceValue
  pub place : ℕ
  pub machine : MachineValue

-- a place that a walk has still to come to, with a machine there, where one is kept
pub record VisitValue : Type 0 where
  pub place : ℕ
  pub machine : Option MachineValue

-- The place is one of the space, and the machine is there.
pub record IsVisit (v : SpaceValue) (visit : VisitValue) : Type 0 where
  pub there : visit.place < count v
  pub at : (m : MachineValue) → visit.machine ≡ Some m → IsAt v visit.place m

-- so is each of some visits
abbrev pub AreVisits : SpaceValue → List VisitValue → Type 0
AreVisits v visits = All (IsVisit v) visits

-- A machine at the place from which the edge leads is at the one that it leads to after the step of the edge.
abbrev pub LeadsOn : SpaceValue → Edge → Type 0
LeadsOn v e = (m : MachineValue) → IsAt v e.from m → IsAt v e.to (machine_next m e.step)

-- The edge leads on from this place.
pub record IsWay (v : SpaceValue) (place : ℕ) (e : Edge) : Type 0 where
  pub from : e.from ≡ place
  pub leads : LeadsOn v e

-- so does each of some edges
abbrev pub AreWays : SpaceValue → ℕ → List Edge → Type 0
AreWays v place edges = All (IsWay v place) edges
