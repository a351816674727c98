-- Steps that execute an instruction and ask for no stream of their processor.
use Rattle.std.specs.Prelude.{◌≡◌, Option, Some, slice_get}
use Rattle.insn_word.specs.declared.insn.Insn.{Insn}
use Rattle.tag_memory.specs.declared.requests.Request.{Request}
use Rattle.image_file.specs.ImageValue.{ImageValue}
use Rattle.stream_core.specs.Streams.{StreamValue}
use Rattle.stream_core.specs.Effects.{request_of}
use Rattle.stream_core.specs.StreamRow.{fetch_of, control_of}
use Rattle.stream_core.specs.declared.steps.Fetch.TheVariants as fetch
use Rattle.processor.specs.Processors.{ProcessorValue, stream_at}
use Rattle.processor.specs.World.{World}
use Rattle.processor.specs.declared.steps.Step.{Step}
use Rattle.local_steps.specs.NeverAsking.{AsksForNone}

-- The stream finds an instruction that makes this request, or none, and has neither RESERVE nor CREATE; it may have QUIT or
-- QUITP.
pub record IsRequestIn (image : ImageValue) (s : StreamValue) (q : Option Request) : Type 0 where
  pub insn : Insn
  pub found : fetch_of image.profile image.program s ≡ fetch.Instruction insn
  pub asked : request_of s insn ≡ q
  pub none : AsksForNone (control_of s insn)

-- that holds of the stream s, which the step names
pub record IsRequestStep (image : ImageValue) (w : World) (t : Step) (s : StreamValue) (q : Option Request) : Type 0 where
  pub processor : ProcessorValue
  pub there : slice_get w.processors t.p ≡ Some processor
  pub is : stream_at processor.streams t.s ≡ s
  pub request : IsRequestIn image s q
