-- Steps that concern their own stream alone.
use Rattle.std.specs.Prelude.{◌≡◌, Some, slice_get}
use Rattle.image_file.specs.ImageValue.{ImageValue}
use Rattle.stream_core.specs.Streams.{StreamValue}
use Rattle.stream_core.specs.StreamRow.{plan_of, control_at}
use Rattle.stream_core.specs.declared.steps.Plan.TheVariants as plan
use Rattle.stream_core.specs.declared.steps.Control.TheVariants as asks
use Rattle.processor.specs.Processors.{ProcessorValue, stream_at}
use Rattle.processor.specs.World.{World}
use Rattle.processor.specs.declared.steps.Step.{Step}

-- The stream runs, and its next instruction has no memory reference, and neither reserves nor starts nor ends streams.
pub record IsLocalIn (image : ImageValue) (s : StreamValue) : Type 0 where
  pub unasked : plan_of image.profile image.program s ≡ plan.Local
  pub plain : control_at image.profile image.program s ≡ asks.Plain

-- that holds of the stream which the step names
pub record IsLocalStep (image : ImageValue) (w : World) (t : Step) : Type 0 where
  pub processor : ProcessorValue
  pub there : slice_get w.processors t.p ≡ Some processor
  pub alone : IsLocalIn image (stream_at processor.streams t.s)
