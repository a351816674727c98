-- What a view tells of a step.
use Rattle.std.specs.Prelude.{◌≡◌, ℕ, Option, Some, None, slice_get}
use Rattle.std.specs.Option.{option_map}
use Rattle.tag_memory.specs.declared.requests.Request.{Request}
use Rattle.tag_memory.specs.Storage.{TaggedMemory}
use Rattle.tag_memory.specs.Chain.{end_of}
use Rattle.tag_memory.specs.Answer.{answer, address_at}
use Rattle.image_file.specs.ImageValue.{ImageValue}
use Rattle.stream_core.specs.Streams.{StreamValue}
use Rattle.machine.specs.Processor.Processors.{ProcessorValue}
use Rattle.machine.specs.Processor.Row.{request}
use Rattle.machine.specs.Processor.World.{World, after, outcome_of}
use Rattle.machine.specs.ProcessorTypes.Step.{Step}
use Rattle.step_views.specs.declared.step_views.Reference.{Reference}
use Rattle.step_views.specs.declared.step_views.StepView.{StepView}
use Rattle.step_views.specs.Places.{used_stream}
use Rattle.step_views.specs.Changes.{AreChanges}

-- the pc of a stream; 0 where there is none
abbrev pub pc_of : Option StreamValue → ℕ
pc_of None = 0
pc_of (Some v) = v.ssw.pc

-- what a step of a processor asks of the memory
abbrev pub asked_in : ImageValue → Option ProcessorValue → ℕ → Option Request
asked_in image None s = None
asked_in image (Some proc) s = request image proc s

-- what a step asks of the memory, if it does
abbrev pub asked_by : ImageValue → World → Step → Option Request
asked_by image w t = asked_in image (slice_get w.processors t.p) t.s

-- where a request ends, and what it is answered
abbrev pub reference_to : TaggedMemory → Request → Reference
reference_to m q = record { request = q; address = address_at (end_of m q); reply = (answer m q).1 }

-- the reference of a step, if it asks
unfoldable pub reference_of : ImageValue → World → Step → Option Reference
reference_of image w t = option_map (reference_to w.memory) (asked_by image w t)

-- the view tells what the step did to this world
pub record IsViewOf (image : ImageValue) (w : World) (t : Step) (view : StepView) : Type 0 where
  pub step : view.step ≡ t
  pub pc : view.pc ≡ pc_of (used_stream w t.p t.s)
  pub outcome : view.outcome ≡ outcome_of image w t
  pub reference : view.reference ≡ reference_of image w t
  pub changes : AreChanges w (after image w t) view.changes.items
