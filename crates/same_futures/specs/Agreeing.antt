-- What is the same in worlds that agree.
use Rattle.std.specs.Prelude.{◌≡◌, ◌↔◌, ℕ, length, slice_get}
use Rattle.image_file.specs.ImageValue.{ImageValue}
use Rattle.stream_core.specs.Streams.{StreamValue}
use Rattle.processor.specs.Processors.{stream_at}
use Rattle.processor.specs.World.{World, counts_of}
use Rattle.processor.specs.declared.steps.Step.{Step}
use Rattle.waiting.specs.Running.{streams_at, runs_in}
use Rattle.waiting.specs.Stuck.{IsStuck}
use Rattle.end_kinds.specs.Ends.{stopped_in, IsKindOf}
use Rattle.end_kinds.specs.declared.kinds.EndKind.{EndKind}
use Rattle.program_flow.specs.Agreeing.{StreamsAgree}

-- the stream of these numbers; idle where there is none
abbrev pub stream_in : World → ℕ → ℕ → StreamValue
stream_in w p k = stream_at (streams_at (slice_get w.processors p)) k

-- Both have the same memory and the same counts, and each stream of theirs is the same but for registers and condition
-- codes, which are the same where they matter.
pub record DifferInParts (named : ℕ → Type 0) (live asked : ℕ → ℕ → Type 0) (a b : World) : Type 0 where
  pub memory : b.memory ≡ a.memory
  pub as_many : length b.processors ≡ length a.processors
  pub counts : (p : ℕ) → counts_of b p ≡ counts_of a p
  pub streams : (p k : ℕ) → StreamsAgree named live asked (stream_in a p k) (stream_in b p k)

-- The same streams run in both, the same are stuck, a trap stopped the same, and they are ends of the same kind.
pub record EndAlike (image : ImageValue) (a b : World) : Type 0 where
  pub run : (t : Step) → runs_in b t ≡ runs_in a t
  pub stopped : (t : Step) → stopped_in b t ≡ stopped_in a t
  pub stuck : (t : Step) → IsStuck image a t ↔ IsStuck image b t
  pub kinds : (kind : EndKind) → IsKindOf image a kind ↔ IsKindOf image b kind
