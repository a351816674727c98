-- Steps that end a stream beside which no other one of its processor ever asks for a stream.
use Rattle.std.specs.Prelude.{◌≡◌, ◌≢◌, ℕ, ⊤, Some, slice_get}
use Rattle.image_file.specs.ImageValue.{ImageValue}
use Rattle.stream_core.specs.Streams.{StreamValue}
use Rattle.stream_core.specs.StreamRow.{plan_of, control_at}
use Rattle.stream_core.specs.declared.steps.Plan.TheVariants as plan
use Rattle.stream_core.specs.declared.steps.Control.{Control}
use Rattle.stream_core.specs.declared.steps.Control.TheVariants as asks
use Rattle.processor.specs.Processors.{ProcessorValue, stream_at}
use Rattle.processor.specs.World.{World}
use Rattle.processor.specs.declared.steps.Step.{Step}
use Rattle.local_steps.specs.NeverAsking.{NeverAsks}

-- It ends the stream: QUIT or QUITP.
abbrev pub IsEnding : Control → Type 0
IsEnding asks.Plain = ⊥
IsEnding (asks.Reserve n) = ⊥
IsEnding (asks.Create child) = ⊥
IsEnding asks.Quit = ⊤
IsEnding asks.QuitKeep = ⊤

-- The stream runs, and its next instruction has no memory reference, and ends it.
pub record IsEndingIn (image : ImageValue) (s : StreamValue) : Type 0 where
  pub unasked : plan_of image.profile image.program s ≡ plan.Local
  pub ends : IsEnding (control_at image.profile image.program s)

-- The next instruction of the stream that the step names ends it without a memory reference, and no other stream of its
-- processor ever asks for a stream.
pub record IsEndingStep (image : ImageValue) (w : World) (t : Step) : Type 0 where
  pub processor : ProcessorValue
  pub there : slice_get w.processors t.p ≡ Some processor
  pub ending : IsEndingIn image (stream_at processor.streams t.s)
  pub others : (k : ℕ) → k ≢ t.s → NeverAsks image (stream_at processor.streams k)
