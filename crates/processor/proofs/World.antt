-- A step of the world, where it is known whether its processor is there.
use Rattle.std.proofs.Common.{◌≡◌, sym, ap, ◌∙◌, set, Some, None, slice_get}
use Rattle.tag_memory.specs.Storage.{TaggedMemory}
use Rattle.image_file.specs.ImageValue.{ImageValue}
use Rattle.stream_core.specs.declared.steps.Outcome.{Outcome}
use Rattle.stream_core.specs.declared.steps.Outcome.TheVariants.{Skipped}
use Rattle.processor.specs.Processors.{ProcessorValue}
use Rattle.processor.specs.Row.{row_over_memory}
use Rattle.processor.specs.World.{World, world_with, world_step_at, world_step}
use Rattle.processor.specs.declared.steps.Step.{Step}

-- a step of a processor that is not there changes nothing
pub world_step-absent : (image : ImageValue) (w : World) (t : Step) → slice_get w.processors t.p ≡ None
    → (w, Skipped) ≡ world_step image w t
unfolding world_step
world_step-absent image w t none = sym (ap (world_step_at image w t) none)

-- a step of a processor that is there leaves it and the memory as the operation table says
pub world_step-present : (image : ImageValue) (w : World) (t : Step) (proc next : ProcessorValue) (m : TaggedMemory)
    (o : Outcome) → slice_get w.processors t.p ≡ Some proc → ((next, o), m) ≡ row_over_memory image proc t.s w.memory
    → (record { processors = set w.processors t.p next; memory = m }, o) ≡ world_step image w t
unfolding world_step
world_step-present image w t proc next m o there is =
    ap (world_with w t.p) is ∙ sym (ap (world_step_at image w t) there)
