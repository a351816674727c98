-- Worlds that differ in registers and condition codes alone that do not matter.
use Rattle.std.specs.Prelude.{◌≡◌, ◌⊎◌, ℕ, ◌<◌, false, true, List, [], ◌∷◌, length, Some, slice_get, slice_set}
use Rattle.image_file.specs.ImageValue.{ImageValue}
use Rattle.stream_core.specs.Streams.{StreamValue, cannot_trap}
use Rattle.processor.specs.Processors.{ProcessorValue, is_idle, stream_at}
use Rattle.processor.specs.Records.{is_running}
use Rattle.processor.specs.Row.{with_stream}
use Rattle.processor.specs.World.{World, world_step, after}
use Rattle.processor.specs.declared.steps.Step.{Step}
use Rattle.program_flow.specs.Agreeing.{StreamsAgree}

-- Stream k of the processor is not idle, and `to` has another stream in its place, which agrees with it in what matters:
-- it differs in registers and condition codes alone that nobody looks at any more.
pub record HasOtherStream (named : ℕ → Type 0) (live asked : ℕ → ℕ → Type 0) (k : ℕ) (from to : ProcessorValue)
    : Type 0 where
  pub within : k < length from.streams
  pub awake : is_idle (stream_at from.streams k) ≡ false
  pub stream : StreamValue
  pub agrees : StreamsAgree named live asked (stream_at from.streams k) stream
  pub is : to ≡ with_stream from k stream

-- The worlds differ in registers and condition codes of one stream that is not idle alone, and not in those that matter.
pub record IsLinked (named : ℕ → Type 0) (live asked : ℕ → ℕ → Type 0) (a b : World) : Type 0 where
  pub p : ℕ
  pub k : ℕ
  pub from : ProcessorValue
  pub to : ProcessorValue
  pub there : slice_get a.processors p ≡ Some from
  pub moved : HasOtherStream named live asked k from to
  pub is : b ≡ record { processors = slice_set a.processors p to; memory = a.memory }

-- `handled` says so where a trap of a running stream has a handler.
abbrev pub TellsHandlers : Type 0 → World → Type 0
TellsHandlers handled w =
    (p k : ℕ) (proc : ProcessorValue) → slice_get w.processors p ≡ Some proc
    → is_running (stream_at proc.streams k) ≡ true → cannot_trap (stream_at proc.streams k) ≡ false → handled

-- The same step of both comes out the same, and leaves one world or two that are linked.
pub record KeepsLink (image : ImageValue) (named : ℕ → Type 0) (live asked : ℕ → ℕ → Type 0) (a b : World) (t : Step)
    : Type 0 where
  pub comes_out : (world_step image b t).1 ≡ (world_step image a t).1
  pub link : (after image b t ≡ after image a t) ⊎ IsLinked named live asked (after image a t) (after image b t)

-- Each of these worlds is linked to the one before it, from the first on to the last.
abbrev pub AreLinked : (ℕ → Type 0) → (ℕ → ℕ → Type 0) → (ℕ → ℕ → Type 0) → World → List World → World → Type 0
AreLinked named live asked a [] b = b ≡ a
AreLinked named live asked a (c ∷ cs) b = IsLinked named live asked a c × AreLinked named live asked c cs b

-- Two worlds agree: they differ in registers and condition codes alone that do not matter, of any streams.
abbrev pub WorldsAgree : (ℕ → Type 0) → (ℕ → ℕ → Type 0) → (ℕ → ℕ → Type 0) → World → World → Type 0
WorldsAgree named live asked a b = (cs : List World) × AreLinked named live asked a cs b
