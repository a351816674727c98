-- A step whose instruction neither reserves nor starts nor ends a stream changes its own stream and the memory alone.
use Rattle.std.proofs.Common.{◌≡◌, ℕ, refl, sym, ap, ◌∙◌, Option, Some, slice_get, if◌then◌else◌, List}
use Rattle.std.proofs.lemmas.List.{set-get_or}
use Rattle.std.proofs.lemmas.Option.{get_or_from_slice_get}
use Rattle.insn_word.specs.declared.insn.Insn.{Insn}
use Rattle.tag_memory.specs.Storage.{TaggedMemory}
use Rattle.tag_memory.specs.declared.requests.Reply.{Reply}
use Rattle.image_file.specs.ImageValue.{ImageValue}
use Rattle.stream_core.specs.Streams.{StreamValue, idle}
use Rattle.stream_core.specs.Effects.{request_of}
use Rattle.stream_core.specs.StreamRow.{control_from, control_at, row_asking}
use Rattle.stream_core.specs.declared.traps.TrapKind.TheVariants as kind
use Rattle.stream_core.specs.declared.steps.Outcome.{Outcome}
use Rattle.stream_core.specs.declared.steps.Outcome.TheVariants as outcome
use Rattle.stream_core.specs.declared.steps.Fetch.{Fetch}
use Rattle.stream_core.specs.declared.steps.Fetch.TheVariants as fetch
use Rattle.stream_core.specs.declared.steps.Control.{Control}
use Rattle.stream_core.specs.declared.steps.Control.TheVariants as asks
use Rattle.processor.specs.Processors.{ProcessorValue, stream_at}
use Rattle.processor.specs.Row.{image_fetch, lacks_stream, step_fetch_from, step_fetch, request_on_fetch, request_at, request}
use Rattle.processor.specs.Row.{grant_of, with_stream, after_control_if_done, row_on_fetch, row_at, row, memory_reply, row_over_memory}
use Rattle.schedule_space.specs.StreamSteps.{stream_row_on_fetch, stream_over_memory, IsPlainIn}

-- it begins with what stands at the pc
plain_fetch : (proc : ProcessorValue) (s : StreamValue) (f : Fetch) → control_from s f ≡ asks.Plain
    → step_fetch_from proc s f ≡ f
plain_fetch proc s fetch.Rest plain = refl
plain_fetch proc s (fetch.Trap k) plain = refl
plain_fetch proc s (fetch.Instruction i) plain =
    ap (λ c. if lacks_stream proc c then fetch.Trap kind.Create else fetch.Instruction i) plain

same_stream : (proc : ProcessorValue) (n : ℕ) (s : StreamValue) → slice_get proc.streams n ≡ Some s
    → proc ≡ with_stream proc n s
same_stream proc n s there =
    let at : stream_at proc.streams n ≡ s = get_or_from_slice_get proc.streams n s idle there in
    sym (ap (λ (x : StreamValue). with_stream proc n x) (sym at)
    ∙ ap (λ (ss : List StreamValue). record proc { streams = ss }) (set-get_or proc.streams n idle))

after_plain : (proc : ProcessorValue) (n : ℕ) (o : Outcome) → after_control_if_done proc n 0 asks.Plain o ≡ proc
after_plain proc n outcome.Skipped = refl
after_plain proc n outcome.Done = refl
after_plain proc n outcome.Blocked = refl
after_plain proc n (outcome.Trapped k) = refl
after_plain proc n (outcome.Stopped k) = refl

-- the processor after an instruction that asks so of it
after_asking : ImageValue → ProcessorValue → ℕ → Option Reply → StreamValue → Insn → Control → ProcessorValue
after_asking image proc n r s i c =
    let grant = grant_of image proc c in
    let e = row_asking image.retry_limit s i grant r (request_of s i) in
    after_control_if_done (with_stream proc n e.0) n grant c e.1

plain_on_fetch : (image : ImageValue) (proc : ProcessorValue) (n : ℕ) (r : Option Reply) (s : StreamValue) (f : Fetch)
    → slice_get proc.streams n ≡ Some s → control_from s f ≡ asks.Plain
    → (row_on_fetch image proc n r s f).0 ≡ with_stream proc n (stream_row_on_fetch image r s f).0
unfolding after_asking
plain_on_fetch image proc n r s fetch.Rest there plain = same_stream proc n s there
plain_on_fetch image proc n r s (fetch.Trap k) there plain = refl
plain_on_fetch image proc n r s (fetch.Instruction i) there plain =
    let e = row_asking image.retry_limit s i 0 r (request_of s i) in
    ap (after_asking image proc n r s i) plain ∙ after_plain (with_stream proc n e.0) n e.1

plain_request : (image : ImageValue) (proc : ProcessorValue) (n : ℕ) (s : StreamValue)
    → slice_get proc.streams n ≡ Some s → control_from s (image_fetch image s) ≡ asks.Plain
    → request image proc n ≡ request_on_fetch s (image_fetch image s)
unfolding request step_fetch
plain_request image proc n s there plain =
    ap (request_at image proc) there ∙ ap (request_on_fetch s) (plain_fetch proc s (image_fetch image s) plain)

plain_row : (image : ImageValue) (proc : ProcessorValue) (n : ℕ) (r : Option Reply) (s : StreamValue)
    → slice_get proc.streams n ≡ Some s → control_from s (image_fetch image s) ≡ asks.Plain
    → (row image proc n r).0 ≡ with_stream proc n (stream_row_on_fetch image r s (image_fetch image s)).0
unfolding row step_fetch
plain_row image proc n r s there plain =
    ap (λ o. (row_at image proc n r o).0) there
    ∙ ap (λ f. (row_on_fetch image proc n r s f).0) (plain_fetch proc s (image_fetch image s) plain)
    ∙ plain_on_fetch image proc n r s (image_fetch image s) there plain

-- the processor is as it was but for the stream
pub plain_processor : (image : ImageValue) (proc : ProcessorValue) (n : ℕ) (s : StreamValue) (m : TaggedMemory)
    → slice_get proc.streams n ≡ Some s → IsPlainIn image s
    → (row_over_memory image proc n m).0.0 ≡ with_stream proc n (stream_over_memory image s m).0
unfolding row_over_memory control_at
plain_processor image proc n s m there plain =
    ap (λ q. (row image proc n (memory_reply m q).1).0) (plain_request image proc n s there plain)
    ∙ plain_row image proc n (memory_reply m (request_on_fetch s (image_fetch image s))).1 s there plain

pub plain_memory : (image : ImageValue) (proc : ProcessorValue) (n : ℕ) (s : StreamValue) (m : TaggedMemory)
    → slice_get proc.streams n ≡ Some s → IsPlainIn image s
    → (row_over_memory image proc n m).1 ≡ (stream_over_memory image s m).1
unfolding row_over_memory control_at
plain_memory image proc n s m there plain = ap (λ q. (memory_reply m q).0) (plain_request image proc n s there plain)
