-- What a step asks, by what its machine says that it needs.
use Rattle.std.proofs.Common.{◌≡◌, ℕ, refl, sym, ap, ◌∙◌, Option, Some, None, slice_get}
use Rattle.std.specs.Option.{option_map}
use Rattle.tag_memory.specs.declared.requests.Request.{Request}
use Rattle.image_file.specs.ImageValue.{ImageValue}
use Rattle.stream_core.specs.Streams.{StreamValue}
use Rattle.stream_core.specs.Effects.{request_of}
use Rattle.stream_core.specs.declared.steps.Fetch.{Fetch}
use Rattle.stream_core.specs.declared.steps.Fetch.TheVariants as fetch
use Rattle.machine.specs.Processor.Processors.{ProcessorValue, stream_at}
use Rattle.machine.specs.Processor.Row.{step_fetch_of, request_on_fetch, next_asking, next_on_fetch}
use Rattle.machine.specs.Processor.World.{World}
use Rattle.machine.specs.ProcessorTypes.Step.{Step}
use Rattle.machine.specs.ProcessorTypes.Next.{Next}
use Rattle.machine.specs.ProcessorTypes.Next.TheVariants as next
use Rattle.machine.proofs.Processor.Begun.{request_begun, next_begun}
use Rattle.machine.specs.MachineValue.{next_at}
use Rattle.step_views.specs.StepViews.{asked_in, reference_to, reference_of}
use Rattle.step_views.specs.declared.step_views.Reference.{Reference}

-- the request of a step that needs this
abbrev pub asked_of : Next → Option Request
asked_of next.Skip = None
asked_of next.Local = None
asked_of (next.Ask q) = Some q

asked_if : (o : Option Request) → o ≡ asked_of (next_asking o)
asked_if None = refl
asked_if (Some q) = refl

asked_on_fetch : (v : StreamValue) (f : Fetch) → request_on_fetch v f ≡ asked_of (next_on_fetch v f)
asked_on_fetch v fetch.Rest = refl
asked_on_fetch v (fetch.Trap k) = refl
asked_on_fetch v (fetch.Instruction i) = asked_if (request_of v i)

asked_there : (image : ImageValue) (o : Option ProcessorValue) (s : ℕ)
    → asked_in image o s ≡ asked_of (next_at image o s)
asked_there image None s = refl
asked_there image (Some proc) s =
    let f = step_fetch_of image proc s in
    request_begun image proc s f refl
    ∙ asked_on_fetch (stream_at proc.streams s) f
    ∙ ap asked_of (next_begun image proc s f refl)

-- the reference by what is needed
pub reference_needed : (image : ImageValue) (w : World) (t : Step) (n : Next)
    → n ≡ next_at image (slice_get w.processors t.p) t.s
    → option_map (reference_to w.memory) (asked_of n) ≡ reference_of image w t
unfolding reference_of
reference_needed image w t n e =
    ap (λ x. option_map (reference_to w.memory) (asked_of x)) e
    ∙ ap (option_map (reference_to w.memory)) (sym (asked_there image (slice_get w.processors t.p) t.s))

-- the reference of this request, with its address and reply
pub reference_made : (image : ImageValue) (w : World) (t : Step) (q : Request) (r : Reference)
    → next.Ask q ≡ next_at image (slice_get w.processors t.p) t.s → r ≡ reference_to w.memory q
    → Some r ≡ reference_of image w t
reference_made image w t q r e is = ap Some is ∙ reference_needed image w t (next.Ask q) e
