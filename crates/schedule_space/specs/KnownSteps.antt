-- What steps left. A step changes its processor and the memory alone, and what it leaves there is told by what both
-- held, but for registers that do not matter, and by the number of its stream.
use Rattle.std.specs.Prelude.{◌≡◌, ℕ, ◌<◌, false, true, IsTrue, Some, List, [], ◌∷◌, length, slice_get, slice_index_or}
use Rattle.tag_memory.specs.Storage.{TaggedMemory}
use Rattle.image_file.specs.ImageValue.{ImageValue}
use Rattle.stream_core.specs.Streams.{StreamValue, cannot_trap}
use Rattle.processor.specs.Processors.{ProcessorValue, stream_at}
use Rattle.processor.specs.Records.{is_running}
use Rattle.processor.specs.Row.{row_over_memory}
use Rattle.agreeing_ends.specs.SameFutures.Handlers.{may_have_handlers}
use Rattle.world_keys.specs.DeadRegisters.Clearing.{LiveValue, cleared_processor}
use Rattle.world_keys.specs.Tables.{place_in, Has}
use Rattle.world_keys.specs.MemoryNumbers.{memory_numbers}
use Rattle.world_keys.specs.WorldKeys.{processor_place, IsMemoryOf, IsKnownProcessor}
use Rattle.schedule_space.specs.declared.known_steps.Places.{Places}

-- steps, each with the places that it left
pub record StepList : Type 0 where
  pub asked : List (List ℕ)
  pub left : List Places

abbrev pub no_steps : StepList
no_steps = record { asked = []; left = [] }

-- the list has the step, with these places
abbrev pub IsSeen : StepList → List ℕ → Places → Type 0
IsSeen v asked l =
    (k : ℕ) × (k < length v.asked) × (slice_index_or v.asked k [] ≡ asked) × (slice_get v.left k ≡ Some l)

-- what a processor and a memory of the image hold is in the table, at these places
pub record IsAt (image : ImageValue) (table : List (List ℕ)) (proc : ProcessorValue) (m : TaggedMemory) (l : Places)
    : Type 0 where
  pub known : IsKnownProcessor table image proc
  pub of : IsMemoryOf image m
  pub has : Has table (memory_numbers image m)
  pub content : l.content ≡ processor_place table proc
  pub memory : l.memory ≡ place_in table (memory_numbers image m)

-- a step, told by the places of what its processor and the memory hold before it, and by its stream
abbrev pub step_numbers : Places → ℕ → List ℕ
step_numbers before s = before.content ∷ s ∷ before.memory ∷ []

-- where a trap of the stream has a handler while it runs, the image says that traps may have one
abbrev pub IsTold : ImageValue → StreamValue → Type 0
IsTold image s = is_running s ≡ true → cannot_trap s ≡ false → IsTrue (may_have_handlers image)

-- so it is with each stream of the processor
abbrev pub AreTold : ImageValue → ProcessorValue → Type 0
AreTold image proc = (k : ℕ) → IsTold image (stream_at proc.streams k)

-- The step leaves these places, of some processor and memory that hold what is at the places before it. Both times the
-- processor is cleared of registers that do not matter.
pub record IsLeft (image : ImageValue) (live : LiveValue) (table : List (List ℕ)) (asked : List ℕ) (l : Places) : Type 0 where
  pub processor : ProcessorValue
  pub memory : TaggedMemory
  pub s : ℕ
  pub before : Places
  pub is_asked : asked ≡ step_numbers before s
  pub told : AreTold image processor
  pub at : IsAt image table (cleared_processor live processor) memory before
  pub left : IsAt image table (cleared_processor live (row_over_memory image processor s memory).0.0)
      (row_over_memory image processor s memory).1 l

-- so does each step of the list
abbrev pub AreLeft : ImageValue → LiveValue → List (List ℕ) → StepList → Type 0
AreLeft image live table v = (asked : List ℕ) (l : Places) → IsSeen v asked l → IsLeft image live table asked l
