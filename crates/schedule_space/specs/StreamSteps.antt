-- What the step of a stream leaves whose instruction neither reserves nor starts nor ends a stream: it changes its own
-- stream and the memory alone, and what it leaves there is told by what both held, but for registers that do not matter.
use Rattle.std.specs.Prelude.{◌≡◌, ℕ, ◌+◌, ◌*◌, ◌<◌, false, Option, Some, List, [], ◌∷◌, length, slice_get}
use Rattle.tag_memory.specs.Storage.{TaggedMemory}
use Rattle.tag_memory.specs.declared.requests.Reply.{Reply}
use Rattle.image_file.specs.ImageValue.{ImageValue}
use Rattle.stream_core.specs.Streams.{StreamValue, after_trap}
use Rattle.stream_core.specs.Effects.{request_of}
use Rattle.stream_core.specs.StreamRow.{control_at, row_asking}
use Rattle.stream_core.specs.declared.steps.Outcome.{Outcome}
use Rattle.stream_core.specs.declared.steps.Outcome.TheVariants as outcome
use Rattle.stream_core.specs.declared.steps.Fetch.{Fetch}
use Rattle.stream_core.specs.declared.steps.Fetch.TheVariants as fetch
use Rattle.stream_core.specs.declared.steps.Control.TheVariants as asks
use Rattle.processor.specs.Processors.{is_idle, stream_at}
use Rattle.processor.specs.World.{World}
use Rattle.processor.specs.declared.steps.Step.{Step}
use Rattle.processor.specs.Row.{image_fetch, request_on_fetch, memory_reply}
use Rattle.world_keys.specs.DeadRegisters.Clearing.{LiveValue, cleared_stream}
use Rattle.world_keys.specs.Tables.{place_in, Has}
use Rattle.world_keys.specs.StreamNumbers.{stream_numbers, IsReadable}
use Rattle.world_keys.specs.MemoryNumbers.{memory_numbers}
use Rattle.world_keys.specs.WorldKeys.{processor_in, IsMemoryOf}
use Rattle.schedule_space.specs.declared.known_steps.Places.{Places}
use Rattle.schedule_space.specs.declared.known_steps.StepsSeen.{StepsSeen}
use Rattle.schedule_space.specs.declared.marks.Mark.{Mark}
use Rattle.schedule_space.specs.KnownSteps.{StepList, IsSeen, IsTold, AreLeft}

-- the stream after a step that begins so, with this reply to its request, and the outcome
abbrev pub stream_row_on_fetch : ImageValue → Option Reply → StreamValue → Fetch → StreamValue × Outcome
stream_row_on_fetch image reply s fetch.Rest = (s, outcome.Skipped)
stream_row_on_fetch image reply s (fetch.Trap k) = after_trap k 0 s
stream_row_on_fetch image reply s (fetch.Instruction i) = row_asking image.retry_limit s i 0 reply (request_of s i)

-- the stream and the memory after such a step
abbrev pub stream_over_memory : ImageValue → StreamValue → TaggedMemory → StreamValue × TaggedMemory
stream_over_memory image s m =
    let e = memory_reply m (request_on_fetch s (image_fetch image s)) in
    ((stream_row_on_fetch image e.1 s (image_fetch image s)).0, e.0)

-- its instruction neither reserves nor starts nor ends a stream
abbrev pub IsPlainIn : ImageValue → StreamValue → Type 0
IsPlainIn image s = control_at image.profile image.program s ≡ asks.Plain

-- what a stream that is not idle and a memory of the image hold is in the table, at these places
pub record IsStreamAt (image : ImageValue) (table : List (List ℕ)) (s : StreamValue) (m : TaggedMemory) (l : Places)
    : Type 0 where
  pub awake : is_idle s ≡ false
  pub there : Has table (stream_numbers s)
  pub readable : IsReadable s
  pub of : IsMemoryOf image m
  pub has : Has table (memory_numbers image m)
  pub content : l.content ≡ place_in table (stream_numbers s)
  pub memory : l.memory ≡ place_in table (memory_numbers image m)

-- The step leaves these places, of some stream and memory that hold what is at the places before it. Both times the
-- stream is cleared of registers that do not matter.
pub record IsStreamLeft (image : ImageValue) (live : LiveValue) (table : List (List ℕ)) (asked : List ℕ) (l : Places)
    : Type 0 where
  pub stream : StreamValue
  pub memory : TaggedMemory
  pub before : Places
  pub is_asked : asked ≡ before.content ∷ before.memory ∷ []
  pub plain : IsPlainIn image stream
  pub told : IsTold image stream
  pub at : IsStreamAt image table (cleared_stream live stream) memory before
  pub left : IsStreamAt image table (cleared_stream live (stream_over_memory image stream memory).0)
      (stream_over_memory image stream memory).1 l

-- so does each step of the list
abbrev pub AreStreamsLeft : ImageValue → LiveValue → List (List ℕ) → StepList → Type 0
AreStreamsLeft image live table v = (asked : List ℕ) (l : Places) → IsSeen v asked l → IsStreamLeft image live table asked l

-- so do the steps of both lists
pub record AreAllLeft (image : ImageValue) (live : LiveValue) (table : List (List ℕ)) (v : StepsSeen) : Type 0 where
  pub by_processor : AreLeft image live table v.by_processor
  pub by_stream : AreStreamsLeft image live table v.by_stream

-- what the stream of a step, as it is cleared, and the memory hold is in the table, at these places
pub record IsStreamAsked (image : ImageValue) (live : LiveValue) (table : List (List ℕ)) (w : World) (t : Step) (asked : List ℕ)
    : Type 0 where
  pub before : Places
  pub is_asked : asked ≡ before.content ∷ before.memory ∷ []
  pub there : t.s < length (processor_in w t.p).streams
  pub at : IsStreamAt image table (cleared_stream live (stream_at (processor_in w t.p).streams t.s)) w.memory before

-- the mark is that of stream s, in the numbers at this place
pub record IsMark (table : List (List ℕ)) (place s : ℕ) (m : Mark) : Type 0 where
  pub numbers : List ℕ
  pub there : slice_get table place ≡ Some numbers
  pub stream : slice_get numbers (2 * m.number + 1) ≡ Some s
  pub content : slice_get numbers (2 * m.number + 2) ≡ Some m.content
