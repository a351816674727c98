-- The graph of a space: its places, and an edge for each step of a stream.
use Rattle.std.specs.Prelude.{◌≡◌, ◌⊎◌, ℕ, ◌<◌, not, IsTrue, Bool, if◌then◌else◌, List, [], ◌∷◌, ◌++◌, map, filter, length}
use Rattle.std.specs.Prelude.{slice_index_or, Contains}
use Rattle.image_file.specs.ImageValue.{ImageValue}
use Rattle.processor.specs.World.{World, after}
use Rattle.processor.specs.declared.steps.Step.{Step}
use Rattle.waiting.specs.Running.{runs_in}
use Rattle.schedule_space.specs.declared.links.Edge as link
use Rattle.schedule_space.specs.Spaces.{SpaceValue, count, schedule_of, world_of, HasEarlierLinks}
use Rattle.fair_rounds.specs.declared.graphs.Edge.{Edge}
use Rattle.fair_rounds.specs.declared.graphs.Standing.{Standing}
use Rattle.fair_rounds.specs.declared.graphs.Round.{Round}
use Rattle.fair_rounds.specs.Rounds.{IsIn}
use Rattle.starving_streams.specs.declared.graphs.Graph.{Graph}
use Rattle.starving_streams.specs.declared.reports.Starving.{Starving}
use Rattle.starving_streams.specs.declared.reports.StarvingStreams.{StarvingStreams}
use Rattle.starving_streams.specs.declared.starving.StreamAnswer.{StreamAnswer}
use Rattle.starving_streams.specs.declared.starving.StreamAnswer.TheVariants as answer
use Rattle.claims.specs.declared.run_conditions.Rest.{Rest}
use Rattle.starving_streams.specs.Rests.{may_rest, is_due}
use Rattle.starving_streams.specs.Starving.{can_complete, CanWaitForEver}
use Rattle.starving_streams.specs.Reports.{IsShown, Names}

-- the stream runs at the place, and can complete there if its next step is not Blocked
pub record IsStanding (v : SpaceValue) (s : Standing) : Type 0 where
  pub there : s.place < count v
  pub runs : IsTrue (runs_in (world_of v s.place) s.step)
  pub can : s.can_complete ≡ can_complete v.image (world_of v s.place) s.step

-- the standing of a stream at a place with this world
abbrev pub standing_of : ImageValue → World → ℕ → Step → Standing
standing_of image w k who = record { place = k; step = who; can_complete = can_complete image w who }

-- some standing is of the stream at the place
abbrev pub Stands : List Standing → ℕ → Step → Type 0
Stands standings k who = (s : Standing) × Contains standings s × (s.place ≡ k) × (s.step ≡ who)

-- They are of the streams that run at the first so many places, and of all of them.
pub record AreStandings (v : SpaceValue) (n : ℕ) (standings : List Standing) : Type 0 where
  pub sound : (s : Standing) → Contains standings s → IsStanding v s
  pub all : (k : ℕ) (who : Step) → k < n → IsTrue (runs_in (world_of v k) who) → Stands standings k who

-- steps of the stream are due at the place, and it can complete there if its next step is not Blocked
pub record IsDueStanding (v : SpaceValue) (rests : List Rest) (s : Standing) : Type 0 where
  pub there : s.place < count v
  pub due : IsTrue (is_due rests (world_of v s.place) s.step)
  pub can : s.can_complete ≡ can_complete v.image (world_of v s.place) s.step

-- They are of the streams of which steps are due at the first so many places, and of all of them.
pub record AreDues (v : SpaceValue) (rests : List Rest) (n : ℕ) (dues : List Standing) : Type 0 where
  pub sound : (s : Standing) → Contains dues s → IsDueStanding v rests s
  pub all : (k : ℕ) (who : Step) → k < n → IsTrue (is_due rests (world_of v k) who) → Stands dues k who

-- whether a stream may not rest in a world
abbrev pub may_not_rest : List Rest → World → Step → Bool
may_not_rest rests w who = not (may_rest rests w who)

-- the standing of a stream, unless it may rest
abbrev pub due_of : Bool → Standing → List Standing
due_of rests s = if rests then [] else s ∷ []

-- the edge is a step of a stream that runs, from one place to another or to the same
pub record IsStepEdge (v : SpaceValue) (e : Edge) : Type 0 where
  pub from : e.from < count v
  pub to : e.to < count v
  pub runs : IsTrue (runs_in (world_of v e.from) e.step)
  pub completes : e.completes ≡ can_complete v.image (world_of v e.from) e.step
  pub leads : world_of v e.to ≡ after v.image (world_of v e.from) e.step

-- some edge is the stream's step from the place
abbrev pub Leaves : List Edge → ℕ → Step → Type 0
Leaves edges k who = (e : Edge) × Contains edges e × (e.from ≡ k) × (e.step ≡ who)

-- They are steps, and each standing of the first so many of these streams has its edge.
pub record AreEdges (v : SpaceValue) (standings : List Standing) (streams : List Step) (n : ℕ) (edges : List Edge)
    : Type 0 where
  pub sound : (e : Edge) → Contains edges e → IsStepEdge v e
  pub all : (s : Standing) (i : ℕ) (d : Step) → Contains standings s → i < n → slice_index_or streams i d ≡ s.step
      → Leaves edges s.place s.step

-- each stream that stands somewhere is one of these
abbrev pub HaveStreams : List Standing → List Step → Type 0
HaveStreams standings streams = (s : Standing) → Contains standings s → Contains streams s.step

-- the stream is there now, and all that were
pub record HasAdded (old : List Step) (who : Step) (new : List Step) : Type 0 where
  pub there : Contains new who
  pub kept : (u : Step) → Contains old u → Contains new u

-- The graph has the streams that run at each place, those of them that may not rest there, and each of their steps.
pub record IsGraph (v : SpaceValue) (rests : List Rest) (g : Graph) : Type 0 where
  pub standings : AreStandings v (count v) g.standings.items
  pub dues : AreDues v rests (count v) g.dues.items
  pub streams : HaveStreams g.standings.items g.streams.items
  pub edges : AreEdges v g.standings.items g.streams.items (length g.streams.items) g.edges.items

-- the edge of a space by the step of a stream from one place to another
abbrev pub link_by : Step → ℕ → ℕ → link.Edge
link_by who from to = record { from = from; step = who; to = to }

-- where the edges lead by the step of a stream from a place: the place itself if there is none for it
abbrev pub IsTarget : List link.Edge → Step → ℕ → ℕ → Type 0
IsTarget links who k to =
    Contains links (link_by who k to) ⊎ ((to ≡ k) × ((j : ℕ) → ¬ (Contains links (link_by who k j))))

-- The same of each of so many places.
pub record AreTargets (n : ℕ) (links : List link.Edge) (who : Step) (targets : List ℕ) : Type 0 where
  pub many : length targets ≡ n
  pub each : (k : ℕ) → k < n → IsTarget links who k (slice_index_or targets k 0)

-- Each number is its own place, so many.
pub record ArePlaces (n : ℕ) (places : List ℕ) : Type 0 where
  pub many : length places ≡ n
  pub each : (k : ℕ) → k < n → slice_index_or places k 0 ≡ k

-- what stood at a place is where the edge leads if it is of that place and stream, else as it was
abbrev pub IsFollowed : link.Edge → Step → ℕ → ℕ → ℕ → Type 0
IsFollowed e who k old new =
    (e ≡ link_by who k new) ⊎ ((new ≡ old) × ((j : ℕ) → ¬ (e ≡ link_by who k j)))

-- the edge of a standing by the targets of its stream
abbrev pub edge_by : List ℕ → Standing → Edge
edge_by targets s =
    record { from = s.place; step = s.step; completes = s.can_complete; to = slice_index_or targets s.place 0 }

-- There are so many marks, and just those of places at which the stream stands are set.
pub record AreMarksBy (standings : List Standing) (count : ℕ) (who : Step) (marks : List Bool) : Type 0 where
  pub many : length marks ≡ count
  pub sound : (k : ℕ) → k < count → IsIn marks k → Stands standings k who
  pub all : (s : Standing) → Contains standings s → s.step ≡ who → s.place < count → IsIn marks s.place

-- the mark of a place is set if the standing is of that place and stream, else as it was
abbrev pub IsMarkedBy : Standing → Step → ℕ → Bool → Bool → Type 0
IsMarkedBy s who k old new =
    ((s.place ≡ k) × (s.step ≡ who) × IsTrue new) ⊎ ((new ≡ old) × (s.place ≡ k → s.step ≡ who → ⊥))

-- There is a mark for each place, and just those at which steps of the stream are due are set.
pub record AreMarksOf (v : SpaceValue) (rests : List Rest) (who : Step) (marks : List Bool) : Type 0 where
  pub each : length marks ≡ count v
  pub sound : (k : ℕ) → k < count v → IsIn marks k → IsTrue (is_due rests (world_of v k) who)
  pub all : (k : ℕ) → k < count v → IsTrue (is_due rests (world_of v k) who) → IsIn marks k

-- the step of an edge
abbrev pub step_of : Edge → Step
step_of e = e.step

-- What is found of a stream: it starves so, it never does, or nothing is known.
abbrev pub IsStreamAnswer : ImageValue → List Step → List Rest → Step → StreamAnswer → Type 0
IsStreamAnswer image begin rests who (answer.Starves x) = IsShown image begin rests x × (x.stream ≡ who)
IsStreamAnswer image begin rests who answer.Never = ¬ (CanWaitForEver image begin rests who)
IsStreamAnswer image begin rests who answer.Undecided = Unit {0}

-- That a stream starves in a round: the schedule to its place, and the steps of its edges.
pub record IsLassoOf (v : SpaceValue) (who : Step) (r : Round) (x : Starving) : Type 0 where
  pub stream : x.stream ≡ who
  pub there : r.place < count v
  pub stem : x.stem.items ≡ schedule_of v r.place
  pub round : x.round.items ≡ map step_of r.edges.items

-- it is that, or nothing is known
abbrev pub IsShownAs : SpaceValue → Step → Round → StreamAnswer → Type 0
IsShownAs v who r (answer.Starves x) = IsLassoOf v who r x × HasEarlierLinks v
IsShownAs v who r answer.Never = ⊥
IsShownAs v who r answer.Undecided = Unit {0}

-- a report with what was found of a stream
abbrev pub IsAdded : Step → StreamAnswer → StarvingStreams → StarvingStreams → Type 0
IsAdded who (answer.Starves x) old new =
    (new.starving.items ≡ old.starving.items ++ x ∷ []) × (new.undecided.items ≡ old.undecided.items)
IsAdded who answer.Never old new =
    (new.starving.items ≡ old.starving.items) × (new.undecided.items ≡ old.undecided.items)
IsAdded who answer.Undecided old new =
    (new.starving.items ≡ old.starving.items) × (new.undecided.items ≡ old.undecided.items ++ who ∷ [])

-- What is said of the first so many of some streams.
pub record TellsOfFirst (image : ImageValue) (begin : List Step) (rests : List Rest) (streams : List Step) (n : ℕ)
    (r : StarvingStreams) : Type 0 where
  pub shown : (x : Starving) → Contains r.starving.items x → IsShown image begin rests x
  pub all : (i : ℕ) (d : Step) → i < n → CanWaitForEver image begin rests (slice_index_or streams i d)
      → Names r.starving.items (slice_index_or streams i d) ⊎ Contains r.undecided.items (slice_index_or streams i d)
