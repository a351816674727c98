-- Which streams never ask for a stream, by the places of a program from which no way leads to a RESERVE or CREATE: these
-- are settled. A list says of each place whether it is; past its end none is.
use Rattle.std.specs.Prelude.{◌≡◌, ◌≢◌, ℕ, Bool, true, false, not, ◌&&◌, ◌||◌, ◌==◌, List, Some, slice_get, slice_index_or}
use Rattle.image_file.specs.ImageValue.{ImageValue}
use Rattle.stream_core.specs.Registers.{target_at}
use Rattle.stream_core.specs.Streams.{StreamValue, no_handler}
use Rattle.processor.specs.Processors.{ProcessorValue, stream_at}
use Rattle.processor.specs.Records.{is_running}
use Rattle.processor.specs.World.{World}
use Rattle.processor.specs.declared.steps.Step.{Step}
use Rattle.waiting.specs.Running.{streams_at}
use Rattle.local_steps.specs.NeverAsking.{NeverAsks}
use Rattle.local_steps.specs.EndingSteps.{IsEndingIn}

-- whether a place is settled
abbrev pub is_settled_place : List Bool → ℕ → Bool
is_settled_place places k = slice_index_or places k false

-- whether a stream stands at a settled place, and its t0 names no handler
abbrev pub stands_settled : List Bool → StreamValue → Bool
stands_settled places s = is_settled_place places s.ssw.pc && ((target_at s.targets 0).pc == no_handler)

-- whether it does so if it runs
abbrev pub is_settled : List Bool → StreamValue → Bool
is_settled places s = not (is_running s) || stands_settled places s

-- where a stream does, it never asks for a stream
abbrev pub AreSettled : ImageValue → List Bool → Type 0
AreSettled image places = (s : StreamValue) → stands_settled places s ≡ true → NeverAsks image s

-- the stream of a processor; idle where there is none
abbrev pub stream_in : World → ℕ → ℕ → StreamValue
stream_in w p k = stream_at (streams_at (slice_get w.processors p)) k

-- The next instruction of the stream that the step names ends it without a memory reference, and each other stream of its
-- processor that runs stands at a settled place, with no handler.
pub record IsSettledEnding (places : List Bool) (image : ImageValue) (w : World) (t : Step) : Type 0 where
  pub processor : ProcessorValue
  pub there : slice_get w.processors t.p ≡ Some processor
  pub ending : IsEndingIn image (stream_at processor.streams t.s)
  pub others : (k : ℕ) → k ≢ t.s → is_settled places (stream_at processor.streams k) ≡ true
