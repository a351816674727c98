-- Steps that nobody sees who looks at some places of a program and at some words alone, as claims do: what a stream does is
-- seen while it runs and stands at one of these places. A list says of each place whether it is looked at; past its end none
-- is. Words are named by their addresses.
use Rattle.std.specs.Prelude.{◌≡◌, ◌≢◌, ℕ, ◌<◌, ◌/◌, ◌&&◌, ◌⊎◌, Bool, false, List, Some, slice_get, slice_index_or}
use Rattle.std.specs.List.{Contains}
use Rattle.tag_memory.specs.Address.{address_of}
use Rattle.tag_memory.specs.Answer.{answer}
use Rattle.tag_memory.specs.ReadRequests.{may_change}
use Rattle.tag_memory.specs.Storage.{cell_at}
use Rattle.tag_memory.specs.declared.requests.Request.{Request}
use Rattle.image_file.specs.ImageValue.{ImageValue}
use Rattle.stream_core.specs.Streams.{StreamValue}
use Rattle.processor.specs.Processors.{stream_at}
use Rattle.processor.specs.Records.{is_running}
use Rattle.processor.specs.World.{World, after, steps}
use Rattle.processor.specs.declared.steps.Step.{Step}
use Rattle.waiting.specs.Running.{streams_at}
use Rattle.agreeing_ends.specs.FirstSets.{AreOutside}
use Rattle.first_sets.specs.CommutingRequests.RequestSteps.{IsRequestStep}
use Rattle.first_sets.specs.LocalSteps.NeverAsking.{own_step}
use Rattle.schedule_space.specs.Spaces.{SpaceValue, count, world_of}
use Rattle.schedule_space.specs.Finding.{IsTaken, IsExpanded}
use Rattle.schedule_space.specs.Followed.{IsTakenTogether}

-- whether a place is looked at
abbrev pub is_looked_at : List Bool → ℕ → Bool
is_looked_at looked_at place = slice_index_or looked_at place false

-- whether a stream is seen: it runs, and stands at a place that is looked at
abbrev pub is_seen : List Bool → StreamValue → Bool
is_seen looked_at s = is_running s && is_looked_at looked_at s.ssw.pc

-- the stream that a step names; idle where there is none
abbrev pub stream_of_step : World → Step → StreamValue
stream_of_step w t = stream_at (streams_at (slice_get w.processors t.p)) t.s

-- The stream of the step is seen neither before it nor after it.
pub record IsQuietStep (looked_at : List Bool) (image : ImageValue) (w : World) (t : Step) : Type 0 where
  pub before : is_seen looked_at (stream_of_step w t) ≡ false
  pub behind : is_seen looked_at (stream_of_step (after image w t) t) ≡ false

-- A step that nobody sees who looks at these places and at the words at these addresses alone: it is quiet, and each other
-- stream and each of these words stays as it is.
pub record IsUnseenStep (looked_at : List Bool) (words : List ℕ) (image : ImageValue) (w : World) (t : Step) : Type 0 where
  pub quiet : IsQuietStep looked_at image w t
  pub others : (u : Step) → u ≢ t → stream_of_step (after image w t) u ≡ stream_of_step w u
  pub cells : (a : ℕ) → Contains words a → cell_at (after image w t).memory a ≡ cell_at w.memory a

-- A request of a stream that nobody sees so: the stream is seen neither before it nor after it, and the request is of none of
-- these words, or only reads.
pub record IsUnseenRequest (looked_at : List Bool) (words : List ℕ) (image : ImageValue) (w : World) (s : StreamValue)
    (q : Request) : Type 0 where
  pub before : is_seen looked_at s ≡ false
  pub behind : is_seen looked_at (own_step image s (Some (answer w.memory q).1)) ≡ false
  pub apart : (a : ℕ) → Contains words a → (a / 8 ≢ address_of q.pointer / 8) ⊎ (may_change q.op q.acc ≡ false)

-- a step with a request is so, whatever stream makes it
abbrev pub IsUnseen : List Bool → List ℕ → ImageValue → World → Step → Type 0
IsUnseen looked_at words image w t =
    (s : StreamValue) (q : Request) → IsRequestStep image w t s (Some q) → IsUnseenRequest looked_at words image w s q

-- one of these steps from the world at this place is taken, and leads to a later one
pub record IsSomeTakenLater (v : SpaceValue) (from : ℕ) (ts : List Step) : Type 0 where
  pub step : Step
  pub there : Contains ts step
  pub taken : IsTaken v from step
  pub later : from < taken.step.to

-- Steps of a set that can be taken before all others are taken from the world at this place. One of them leads to a later
-- place, and nobody sees it, after whatever others do.
pub record IsTakenQuietly (looked_at : List Bool) (words : List ℕ) (v : SpaceValue) (from : ℕ) : Type 0 where
  pub together : IsTakenTogether v from
  pub step : Step
  pub there : Contains together.set step
  pub taken : IsTaken v from step
  pub later : from < taken.step.to
  pub unseen : (us : List Step) → AreOutside together.set us
      → IsUnseenStep looked_at words v.image (steps v.image (world_of v from) us) step

-- each step from the world at this place is taken, or those of such a set
abbrev pub IsFollowedQuietly : List Bool → List ℕ → SpaceValue → ℕ → Type 0
IsFollowedQuietly looked_at words v k = IsExpanded v k ⊎ IsTakenQuietly looked_at words v k

-- that holds of each world of the space
abbrev pub AllFollowedQuietly : List Bool → List ℕ → SpaceValue → Type 0
AllFollowedQuietly looked_at words v = (k : ℕ) → k < count v → IsFollowedQuietly looked_at words v k
