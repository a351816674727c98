-- A space in the making.
use Rattle.std.specs.Prelude.{◌≡◌, ℕ, ◌+◌, ◌<◌, ◌≤◌, List, [], ◌∷◌, ◌++◌, length, map, slice_index_or, Contains, ◌⊎◌}
use Rattle.std.specs.Prelude.{IsTrue}
use Rattle.image_file.specs.ImageValue.{ImageValue}
use Rattle.processor.specs.World.{World, after, run}
use Rattle.processor.specs.declared.steps.Step.{Step}
use Rattle.waiting.specs.Running.{runs_in}
use Rattle.program_flow.specs.Tables.{is_named_by}
use Rattle.world_keys.specs.DeadRegisters.Clearing.{LiveValue, cleared, IsLive, AgreeBy}
use Rattle.agreeing_ends.specs.Followed.{FoundWorlds}
use Rattle.agreeing_ends.specs.Followed as found
use Rattle.world_keys.specs.WorldKeys.{key_of, IsKnown}
use Rattle.schedule_space.specs.declared.links.Link.{Link}
use Rattle.schedule_space.specs.declared.links.Edge.{Edge}
use Rattle.schedule_space.specs.declared.fates.Fate.{Fate}
use Rattle.schedule_space.specs.declared.fates.Fate.TheVariants as fate
use Rattle.schedule_space.specs.Spaces.{schedules, SpaceValue, count, schedule_of, world_of, HasStandIn}
use Rattle.schedule_space.specs.Spaces.{AreAllApart, ShortestFirst, AreAllDifferent, IsEdgeToStandIn}
use Rattle.schedule_space.specs.Fates.{IsFate}
use Rattle.schedule_space.specs.declared.known_steps.StepsSeen.{StepsSeen}
use Rattle.schedule_space.specs.StreamSteps.{AreAllLeft}

-- the space of these parts
abbrev pub space_of : ImageValue → LiveValue → List Step → List Link → List Edge → SpaceValue
space_of image live begin links edges =
    record { image = image; live = live; begin = begin; links = links; edges = edges }

-- its worlds, each with the length of its schedule
abbrev pub found_in : SpaceValue → FoundWorlds
found_in v =
    record { image = v.image; count = count v; world = world_of v; depth = λ k. length (schedule_of v k) }

-- the space with one more world
abbrev pub with_link : SpaceValue → Link → SpaceValue
with_link v l = record v { links = v.links ++ l ∷ [] }

-- the space with one more edge
abbrev pub with_edge : SpaceValue → Edge → SpaceValue
with_edge v e = record v { edges = v.edges ++ e ∷ [] }

-- What holds of the parts of a space: what may be read again is live, each link names an earlier world, worlds are in the
-- order of the lengths of their schedules, each edge is one, none is there twice, and each world has its fate.
pub record IsSpace (v : SpaceValue) (fs : List Fate) : Type 0 where
  pub live : IsLive v.image v.live
  pub earlier : (k : ℕ) (l : Link) → k < length v.links → (slice_index_or v.links k l).from ≤ k
  pub in_order : ShortestFirst v
  pub edges : (e : Edge) → Contains v.edges e → IsEdgeToStandIn v e
  pub once : AreAllDifferent v.edges
  pub each : length fs ≡ count v
  pub fates : (k : ℕ) → k < count v → IsFate v.image (world_of v k) (slice_index_or fs k fate.GoesOn)

-- the world after a schedule, with 0 in each register that does not matter
abbrev pub cleared_after : SpaceValue → List Step → World
cleared_after v ts = cleared v.live (run v.image ts)

-- Keys are those of the worlds, cleared, in a table, and no world stands for another one.
pub record IsKeyed (v : SpaceValue) (table ks : List (List ℕ)) : Type 0 where
  pub keys : ks ≡ map (λ ts. key_of table v.image (cleared_after v ts)) (schedules v.begin v.links)
  pub known : (k : ℕ) → k < count v → IsKnown table v.image (cleared_after v (schedule_of v k))
  pub apart : AreAllApart v

-- the registers of a stream are all named, r0 to r31
abbrev pub NamesAll : LiveValue → Type 0
NamesAll l = (r : ℕ) → r < 32 → IsTrue (is_named_by l.names r)

-- what holds of a space in the making
pub record IsFound (v : SpaceValue) (fates : List Fate) (table keys : List (List ℕ)) : Type 0 where
  pub space : IsSpace v fates
  pub keyed : IsKeyed v table keys

-- the same, and what steps of its worlds left
pub record IsInTheMaking (v : SpaceValue) (fates : List Fate) (table keys : List (List ℕ)) (steps : StepsSeen)
    : Type 0 where
  pub found : IsFound v fates table keys
  pub left : AreAllLeft v.image v.live table steps

-- the list has the step of each stream that runs
abbrev pub HasRunning : World → List Step → Type 0
HasRunning w ts = (t : Step) → IsTrue (runs_in w t) → Contains ts t

-- the later space has the same worlds at the same places, perhaps more behind them, and the same edges, perhaps more
pub record IsGrown (old new : SpaceValue) : Type 0 where
  pub image : new.image ≡ old.image
  pub live : new.live ≡ old.live
  pub begin : new.begin ≡ old.begin
  pub more : length old.links ≤ length new.links
  pub same : (k : ℕ) → k < count old → schedule_of new k ≡ schedule_of old k
  pub edges : (e : Edge) → Contains old.edges e → Contains new.edges e

-- A step from the world at this place leads to one for which a world of the space stands, whose schedule is at most one
-- step longer, and there is an edge for it unless it is the same world.
pub record IsTaken (v : SpaceValue) (from : ℕ) (t : Step) : Type 0 where
  pub step : found.IsTaken (AgreeBy v.live) (found_in v) from t
  pub edge : (step.to ≡ from) ⊎ Contains v.edges (record { from = from; step = t; to = step.to })

-- the step is taken, and leads to that place
abbrev pub IsTakenTo : SpaceValue → ℕ → Step → ℕ → Type 0
IsTakenTo v from t to = (taken : IsTaken v from t) × (taken.step.to ≡ to)

-- each step from the world at this place is taken
abbrev pub IsExpanded : SpaceValue → ℕ → Type 0
IsExpanded v k = (t : Step) → IsTaken v k t

-- Schedules do not get shorter from place to place, and none is more than one step longer than that of this place.
pub record IsBreadthFirst (v : SpaceValue) (from : ℕ) : Type 0 where
  pub sorted : ShortestFirst v
  pub near : (k : ℕ) → k < count v → length (schedule_of v k) ≤ length (schedule_of v from) + 1

-- no edge is there yet for this step from the world at this place
abbrev pub HasNoEdge : SpaceValue → ℕ → Step → Type 0
HasNoEdge v from t = (e : Edge) → Contains v.edges e → e.from ≡ from → ¬ (e.step ≡ t)

-- so it is of each of these steps
abbrev pub HaveNoEdges : SpaceValue → ℕ → List Step → Type 0
HaveNoEdges v from ts = (t : Step) → Contains ts t → HasNoEdge v from t

-- What holds of the space while steps from the world at this place are taken: no edge leads from a later one.
pub record IsExpanding (v : SpaceValue) (from most : ℕ) : Type 0 where
  pub there : from < count v
  pub within : count v ≤ most
  pub edges : (e : Edge) → Contains v.edges e → e.from ≤ from
  pub breadth : IsBreadthFirst v from

-- The space has as many worlds as it may have, and a step from the world at this place leads to one for which none of them
-- stands.
pub record IsFullAt (v : SpaceValue) (from most : ℕ) : Type 0 where
  pub many : count v ≡ most
  pub step : Step
  pub missing : ¬ (HasStandIn v (after v.image (world_of v from) step))
