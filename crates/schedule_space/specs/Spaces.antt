-- Spaces: worlds of an image, the first of them after a schedule with which all begin, and each other one with a link,
-- the place of an earlier world and a step that leads from that to it.
use Rattle.std.specs.Prelude.{◌≡◌, ◌≢◌, ◌↔◌, ℕ, ◌+◌, ◌<◌, ◌≤◌, ◌++◌, List, [], ◌∷◌, length, slice_index_or, Contains}
use Rattle.image_file.specs.ImageValue.{ImageValue}
use Rattle.processor.specs.World.{World, after, run}
use Rattle.processor.specs.declared.steps.Step.{Step}
use Rattle.machine.specs.MachineValue.{MachineValue}
use Rattle.world_keys.specs.DeadRegisters.Clearing.{LiveValue, AgreeBy}
use Rattle.schedule_space.specs.declared.links.Link.{Link}
use Rattle.schedule_space.specs.declared.links.Edge.{Edge}

-- The schedules that links give.

-- behind those that are there
abbrev pub schedules_after : List (List Step) → List Link → List (List Step)
schedules_after found [] = found
schedules_after found (l ∷ ls) =
    schedules_after (found ++ (slice_index_or found l.from [] ++ l.step ∷ []) ∷ []) ls

-- first the one with which all begin, and for each link the schedule of the place that it names, with its step behind
unfoldable pub schedules : List Step → List Link → List (List Step)
schedules begin links = schedules_after (begin ∷ []) links

-- A space, as contracts see it: its worlds are those that the schedules of its links lead to, and its edges say which
-- step leads from which of them to which. All schedules start with those of its beginning. `live` says which registers of
-- its worlds matter.
pub record SpaceValue : Type 0 where
  pub image : ImageValue
  pub live : LiveValue
  pub begin : List Step
  pub links : List Link
  pub edges : List Edge

-- how many worlds it has
abbrev pub count : SpaceValue → ℕ
count v = length v.links + 1

-- the schedule that the links give for the world at a place
abbrev pub schedule_of : SpaceValue → ℕ → List Step
schedule_of v k = slice_index_or (schedules v.begin v.links) k []

-- the world at a place
abbrev pub world_of : SpaceValue → ℕ → World
world_of v k = run v.image (schedule_of v k)

-- the image's machine after a schedule
abbrev pub machine_after : ImageValue → List Step → MachineValue
machine_after image ts = record { image = image; world = run image ts }

-- the machine after the schedule that links give for a place
abbrev pub machine_by : ImageValue → List Step → List Link → ℕ → MachineValue
machine_by image begin links place = machine_after image (slice_index_or (schedules begin links) place [])

-- each link names an earlier place, and the place is one of theirs
pub record IsRoute (links : List Link) (place : ℕ) : Type 0 where
  pub earlier : (k : ℕ) (l : Link) → k < length links → (slice_index_or links k l).from ≤ k
  pub there : place ≤ length links

-- each world but the first was found by a step from an earlier one
abbrev pub HasEarlierLinks : SpaceValue → Type 0
HasEarlierLinks v = (k : ℕ) (l : Link) → k < length v.links → (slice_index_or v.links k l).from ≤ k

-- the world is one of the space
abbrev pub Has : SpaceValue → World → Type 0
Has v w = (k : ℕ) × (k < count v) × (world_of v k ≡ w)

-- each schedule that goes on from the beginning leads to a world of the space
abbrev pub IsComplete : SpaceValue → Type 0
IsComplete v = (ts : List Step) → Has v (run v.image (v.begin ++ ts))

-- the space has none of its worlds twice
abbrev pub IsDistinct : SpaceValue → Type 0
IsDistinct v = (k j : ℕ) → k < count v → j < count v → world_of v k ≡ world_of v j → k ≡ j

-- A world stands for each one that is the same but for registers that do not matter, which nobody reads again and which are
-- not named, and condition codes that nobody asks for again.

-- the world at a place stands for this one
abbrev pub StandsFor : SpaceValue → ℕ → World → Type 0
StandsFor v k w = AgreeBy v.live (world_of v k) w

-- some world of the space stands for this one
abbrev pub HasStandIn : SpaceValue → World → Type 0
HasStandIn v w = (k : ℕ) × (k < count v) × StandsFor v k w

-- some schedule that goes on from the beginning leads to a world for which none of the space stands
abbrev pub LacksStandIn : SpaceValue → Type 0
LacksStandIn v = (ts : List Step) × (¬ (HasStandIn v (run v.image (v.begin ++ ts))))

-- none of its worlds stands for another one of them
abbrev pub AreAllApart : SpaceValue → Type 0
AreAllApart v = (k j : ℕ) → k < count v → j < count v → StandsFor v k (world_of v j) → k ≡ j

-- each of its worlds stands for itself alone
abbrev pub StandAlone : SpaceValue → Type 0
StandAlone v = (k : ℕ) → k < count v → (w : World) → StandsFor v k w → world_of v k ≡ w

-- Its worlds are in the order of the lengths of their schedules: none comes before one whose schedule is shorter.
abbrev pub ShortestFirst : SpaceValue → Type 0
ShortestFirst v = (j k : ℕ) → j ≤ k → k < count v → length (schedule_of v j) ≤ length (schedule_of v k)

-- no schedule that goes on from the beginning to the world at a place is shorter than the one that the links give
abbrev pub IsShortest : SpaceValue → Type 0
IsShortest v =
    (k : ℕ) → k < count v → (ts : List Step) → run v.image (v.begin ++ ts) ≡ world_of v k
    → length (schedule_of v k) ≤ length (v.begin ++ ts)

-- no two elements of a list are the same
abbrev pub AreAllDifferent : {A : Type 0} → List A → Type 0
AreAllDifferent {A} xs =
    (j k : ℕ) (d : A) → j < k → k < length xs → ¬ (slice_index_or xs j d ≡ slice_index_or xs k d)

-- an edge is a step that leads from one world of the space to another one
pub record IsEdge (v : SpaceValue) (e : Edge) : Type 0 where
  pub from : e.from < count v
  pub to : e.to < count v
  pub apart : e.to ≢ e.from
  pub leads : world_of v e.to ≡ after v.image (world_of v e.from) e.step

-- the space has an edge for each step that leads away from a world of it
abbrev pub HasAllEdges : SpaceValue → Type 0
HasAllEdges v = (e : Edge) → Contains v.edges e ↔ IsEdge v e

-- the step of the edge leads from one world of the space to one for which another world of it stands
pub record IsEdgeToStandIn (v : SpaceValue) (e : Edge) : Type 0 where
  pub from : e.from < count v
  pub to : e.to < count v
  pub apart : e.to ≢ e.from
  pub leads : StandsFor v e.to (after v.image (world_of v e.from) e.step)
