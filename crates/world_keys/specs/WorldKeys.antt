-- The key of a world: few numbers, by which worlds of one image are told apart. What its streams, its processors and its
-- memory hold is kept in a table of lists of numbers.
use Rattle.std.specs.Prelude.{◌≡◌, ℕ, ◌+◌, ◌<◌, Bool, true, false, List, [], ◌∷◌, ◌++◌, length, map, if◌then◌else◌}
use Rattle.std.specs.Prelude.{slice_index_or}
use Rattle.tag_memory.specs.Storage.{TaggedMemory}
use Rattle.image_file.specs.ImageValue.{ImageValue}
use Rattle.stream_core.specs.Streams.{StreamValue, idle}
use Rattle.processor.specs.Processors.{ProcessorValue, is_idle, count_current}
use Rattle.processor.specs.World.{World}
use Rattle.world_keys.specs.Tables.{place_in, Has}
use Rattle.world_keys.specs.StreamNumbers.{stream_numbers, IsReadable}
use Rattle.world_keys.specs.MemoryNumbers.{memory_numbers}

-- The numbers.

-- stream n of a processor: nothing where it is idle, else its number and the place of what it holds
abbrev pub stream_mark : List (List ℕ) → ℕ → StreamValue → List ℕ
stream_mark table n s = if is_idle s then [] else n ∷ place_in table (stream_numbers s) ∷ []

-- the same of streams that are numbered from n on
unfoldable pub stream_marks : List (List ℕ) → ℕ → List StreamValue → List ℕ
stream_marks table n [] = []
stream_marks table n (s ∷ ss) = stream_mark table n s ++ stream_marks table (n + 1) ss

-- how many streams of a processor are reserved, and its streams that are not idle
abbrev pub processor_numbers : List (List ℕ) → ProcessorValue → List ℕ
processor_numbers table proc = proc.sres ∷ stream_marks table 0 proc.streams

-- the place of what a processor holds
abbrev pub processor_place : List (List ℕ) → ProcessorValue → ℕ
processor_place table proc = place_in table (processor_numbers table proc)

-- the key of a world: the place of what its memory holds, and that of what each processor holds
abbrev pub key_of : List (List ℕ) → ImageValue → World → List ℕ
key_of table image w = place_in table (memory_numbers image w.memory) ∷ map (processor_place table) w.processors

-- What is known of a world whose key is made.

-- an idle stream holds zeros only; what another one holds is in the table, and nothing of it is lost there
abbrev pub IsKnownIf : List (List ℕ) → StreamValue → Bool → Type 0
IsKnownIf table s true = s ≡ idle
IsKnownIf table s false = Has table (stream_numbers s) × IsReadable s

abbrev pub IsKnownStream : List (List ℕ) → StreamValue → Type 0
IsKnownStream table s = IsKnownIf table s (is_idle s)

-- what the streams of a processor of the image hold is in the table
pub record IsHeld (table : List (List ℕ)) (image : ImageValue) (proc : ProcessorValue) : Type 0 where
  pub slim : length proc.streams ≡ image.slim
  pub counts : proc.scur ≡ count_current proc.streams
  pub streams : (n : ℕ) → n < length proc.streams → IsKnownStream table (slice_index_or proc.streams n idle)

-- what the processor holds is
pub record IsKnownProcessor (table : List (List ℕ)) (image : ImageValue) (proc : ProcessorValue) : Type 0 where
  pub held : IsHeld table image proc
  pub numbers : Has table (processor_numbers table proc)

-- a memory of the image: as many words and the chain limit of the image
pub record IsMemoryOf (image : ImageValue) (m : TaggedMemory) : Type 0 where
  pub cells : length m.cells ≡ length image.cells
  pub chain : m.chain_limit ≡ image.chain_limit

-- a processor without a stream
abbrev pub no_processor : ProcessorValue
no_processor = record { streams = []; scur = 0; sres = 0 }

-- the processor of this number
abbrev pub processor_in : World → ℕ → ProcessorValue
processor_in w p = slice_index_or w.processors p no_processor

-- what the memory and the processors of a world of the image hold is in the table
pub record IsKnown (table : List (List ℕ)) (image : ImageValue) (w : World) : Type 0 where
  pub memory : IsMemoryOf image w.memory
  pub numbers : Has table (memory_numbers image w.memory)
  pub one_each : length w.processors ≡ length image.entries
  pub processors : (p : ℕ) → p < length w.processors
      → IsKnownProcessor table image (slice_index_or w.processors p no_processor)
