-- Steps that begin with an instruction in a short form, which asks nothing of its processor.
use Rattle.std.proofs.Common.{◌≡◌, ℕ, true, false, refl, sym, ap, ◌∙◌, List, Option, None, Some, is_some, IfSome}
use Rattle.std.proofs.Common.{if◌then◌else◌, slice_get}
use Rattle.insn_word.specs.ShortInsns.{short_instruction, reference_instruction}
use Rattle.insn_word.specs.declared.profiles.Profile.{Profile}
use Rattle.insn_word.specs.declared.insn.Insn.{Insn}
use Rattle.insn_word.specs.declared.short_insns.ShortInsn.{ShortInsn}
use Rattle.insn_word.specs.declared.short_insns.ReferenceInsn.{ReferenceInsn}
use Rattle.tag_memory.specs.declared.requests.Request.{Request}
use Rattle.tag_memory.specs.declared.requests.Reply.{Reply}
use Rattle.tag_memory.specs.Storage.{TaggedMemory}
use Rattle.tag_memory.specs.Answer.{answer}
use Rattle.image_file.specs.ImageValue.{ImageValue}
use Rattle.stream_core.specs.Streams.{StreamValue}
use Rattle.stream_core.specs.Effects.{request_of, after_instruction}
use Rattle.stream_core.specs.StreamRow.{fetch_of, control_of, after_reply, row_asking}
use Rattle.stream_core.proofs.ShortSteps.{short_plain, reference_plain, reference_asks}
use Rattle.stream_core.specs.declared.traps.TrapKind.{TrapKind}
use Rattle.stream_core.specs.declared.traps.TrapKind.TheVariants as kind
use Rattle.stream_core.specs.declared.steps.Outcome.{Outcome}
use Rattle.stream_core.specs.declared.steps.Outcome.TheVariants as outcome
use Rattle.stream_core.specs.declared.steps.Fetch.TheVariants as fetch
use Rattle.stream_core.specs.declared.steps.Control.{Control}
use Rattle.stream_core.specs.declared.steps.Control.TheVariants as asks
use Rattle.processor.specs.Processors.{ProcessorValue, stream_at}
use Rattle.processor.specs.Row.{lacks_stream, image_fetch, step_fetch_from, step_fetch, step_fetch_at, step_fetch_of}
use Rattle.processor.specs.Row.{grant_of, with_stream, after_control_if_done, row_on_fetch, row}
use Rattle.processor.specs.Row.{next_of, request, put_back, memory_reply, row_over_memory}
use Rattle.processor.specs.declared.steps.Next.TheVariants as next
use Rattle.processor.proofs.Begun.{next_begun, request_begun, row_begun, row_over_memory_begun}

-- What they are found by.

plain_begun : (image : ImageValue) (proc : ProcessorValue) (n : ℕ) (s : StreamValue) (i : Insn)
    → slice_get proc.streams n ≡ Some s → image_fetch image s ≡ fetch.Instruction i → control_of s i ≡ asks.Plain
    → step_fetch_of image proc n ≡ fetch.Instruction i
unfolding step_fetch_of step_fetch
plain_begun image proc n s i there found plain =
    ap (step_fetch_at image proc) there
    ∙ ap (step_fetch_from proc s) found
    ∙ ap (λ (asking : Control). if lacks_stream proc asking then fetch.Trap kind.Create else fetch.Instruction i) plain

pub short_begun : (image : ImageValue) (proc : ProcessorValue) (n : ℕ) (s : StreamValue) (program : List ℕ)
    (o : Option ShortInsn) → slice_get proc.streams n ≡ Some s → program ≡ image.program
    → ((p : Profile) → IfSome o (λ short. fetch_of p program s ≡ fetch.Instruction (short_instruction short)))
    → IfSome o (λ short. step_fetch_of image proc n ≡ fetch.Instruction (short_instruction short))
short_begun image proc n s program None there same found = tt
short_begun image proc n s program (Some short) there same found =
    plain_begun image proc n s (short_instruction short) there
    (ap (λ x. fetch_of image.profile x s) (sym same) ∙ found image.profile) (short_plain s short)

pub reference_begun : (image : ImageValue) (proc : ProcessorValue) (n : ℕ) (s : StreamValue) (program : List ℕ)
    (o : Option ReferenceInsn) → slice_get proc.streams n ≡ Some s → program ≡ image.program
    → ((p : Profile) → IfSome o (λ r. fetch_of p program s ≡ fetch.Instruction (reference_instruction r)))
    → IfSome o (λ r. step_fetch_of image proc n ≡ fetch.Instruction (reference_instruction r))
reference_begun image proc n s program None there same found = tt
reference_begun image proc n s program (Some r) there same found =
    plain_begun image proc n s (reference_instruction r) there
    (ap (λ x. fetch_of image.profile x s) (sym same) ∙ found image.profile) (reference_plain s r)

-- With no reference.

on_short : (image : ImageValue) (proc : ProcessorValue) (n : ℕ) (s : StreamValue) (short : ShortInsn)
    → (with_stream proc n (after_instruction s (short_instruction short) 0 0), outcome.Done)
    ≡ row_on_fetch image proc n None s (fetch.Instruction (short_instruction short))
unfolding request_of
on_short image proc n s short =
    ap (λ (asking : Control).
    let grant = grant_of image proc asking in
    let e = row_asking image.retry_limit s (short_instruction short) grant None None in
    (after_control_if_done (with_stream proc n e.0) n grant asking e.1, e.1)) (sym (short_plain s short))

pub short_row : (image : ImageValue) (proc : ProcessorValue) (n : ℕ) (short : ShortInsn)
    → step_fetch_of image proc n ≡ fetch.Instruction (short_instruction short)
    → (with_stream proc n (after_instruction (stream_at proc.streams n) (short_instruction short) 0 0), outcome.Done)
    ≡ row image proc n None
short_row image proc n short found =
    on_short image proc n (stream_at proc.streams n) short
    ∙ row_begun image proc n None (fetch.Instruction (short_instruction short)) found

pub short_row_over : (image : ImageValue) (proc : ProcessorValue) (n : ℕ) (m : TaggedMemory) (short : ShortInsn)
    → step_fetch_of image proc n ≡ fetch.Instruction (short_instruction short)
    → (
      (
        with_stream proc n (after_instruction (stream_at proc.streams n) (short_instruction short) 0 0),
        outcome.Done,
      ),
      m,
    )
    ≡ row_over_memory image proc n m
unfolding request_of
short_row_over image proc n m short found =
    ap (λ x. (x, m)) (on_short image proc n (stream_at proc.streams n) short)
    ∙ row_over_memory_begun image proc n m m (fetch.Instruction (short_instruction short)) None found refl

-- With a reference.

plain_stays : (proc : ProcessorValue) (n : ℕ) (o : Outcome) → proc ≡ after_control_if_done proc n 0 asks.Plain o
plain_stays proc n outcome.Skipped = refl
plain_stays proc n outcome.Done = refl
plain_stays proc n outcome.Blocked = refl
plain_stays proc n (outcome.Trapped k) = refl
plain_stays proc n (outcome.Stopped k) = refl

on_reference : (image : ImageValue) (proc : ProcessorValue) (n : ℕ) (s : StreamValue) (r : ReferenceInsn)
    (reply : Reply)
    → put_back proc n (after_reply image.retry_limit s (reference_instruction r) 0 reply)
    ≡ row_on_fetch image proc n (Some reply) s (fetch.Instruction (reference_instruction r))
on_reference image proc n s r reply =
    let i = reference_instruction r in
    let limit = image.retry_limit in
    let done = after_reply limit s i 0 reply in
    ap (λ x. (x, done.1)) (plain_stays (with_stream proc n done.0) n done.1)
    ∙ ap (λ (o : Option Request).
    let e = row_asking limit s i 0 (Some reply) o in
    (after_control_if_done (with_stream proc n e.0) n 0 asks.Plain e.1, e.1)) (sym (reference_asks s r).1)
    ∙ ap (λ (asking : Control).
    let grant = grant_of image proc asking in
    let e = row_asking limit s i grant (Some reply) (request_of s i) in
    (after_control_if_done (with_stream proc n e.0) n grant asking e.1, e.1)) (sym (reference_plain s r))

pub reference_row : (image : ImageValue) (proc : ProcessorValue) (n : ℕ) (r : ReferenceInsn) (reply : Reply)
    → step_fetch_of image proc n ≡ fetch.Instruction (reference_instruction r)
    → put_back proc n (after_reply image.retry_limit (stream_at proc.streams n) (reference_instruction r) 0 reply)
    ≡ row image proc n (Some reply)
reference_row image proc n r reply found =
    on_reference image proc n (stream_at proc.streams n) r reply
    ∙ row_begun image proc n (Some reply) (fetch.Instruction (reference_instruction r)) found

pub reference_row_over : (image : ImageValue) (proc : ProcessorValue) (n : ℕ) (m after : TaggedMemory)
    (r : ReferenceInsn) (q : Request) (reply : Reply)
    → step_fetch_of image proc n ≡ fetch.Instruction (reference_instruction r)
    → Some q ≡ request_of (stream_at proc.streams n) (reference_instruction r) → (after, reply) ≡ answer m q
    → (
      put_back proc n (after_reply image.retry_limit (stream_at proc.streams n) (reference_instruction r) 0 reply),
      after,
    )
    ≡ row_over_memory image proc n m
reference_row_over image proc n m after r q reply found asks answers =
    ap (λ x. (x, after)) (on_reference image proc n (stream_at proc.streams n) r reply)
    ∙ row_over_memory_begun image proc n m after (fetch.Instruction (reference_instruction r)) (Some reply) found
    (ap (λ (x : TaggedMemory × Reply). (x.0, Some x.1)) answers ∙ ap (memory_reply m) asks)

-- What they need.

pub short_next : (image : ImageValue) (proc : ProcessorValue) (n : ℕ) (short : ShortInsn)
    → step_fetch_of image proc n ≡ fetch.Instruction (short_instruction short) → next.Local ≡ next_of image proc n
unfolding request_of
short_next image proc n short found = next_begun image proc n (fetch.Instruction (short_instruction short)) found

-- What they ask.

pub reference_not_local : (image : ImageValue) (proc : ProcessorValue) (n : ℕ) (r : ReferenceInsn)
    → step_fetch_of image proc n ≡ fetch.Instruction (reference_instruction r) → request image proc n ≡ None → ⊥
reference_not_local image proc n r found none =
    let s = stream_at proc.streams n in
    let e : None ≡ Some (reference_asks s r).0 =
    sym none ∙ request_begun image proc n (fetch.Instruction (reference_instruction r)) found ∙ (reference_asks s r).1 in
    cc

pub rest_asks_nothing : (image : ImageValue) (proc : ProcessorValue) (n : ℕ) → step_fetch_of image proc n ≡ fetch.Rest
    → is_some (request image proc n) ≡ true → ⊥
rest_asks_nothing image proc n found some =
    let e : false ≡ true = sym (ap is_some (request_begun image proc n fetch.Rest found)) ∙ some in cc

pub trap_asks_nothing : (image : ImageValue) (proc : ProcessorValue) (n : ℕ) (k : TrapKind)
    → step_fetch_of image proc n ≡ fetch.Trap k → is_some (request image proc n) ≡ true → ⊥
trap_asks_nothing image proc n k found some =
    let e : false ≡ true = sym (ap is_some (request_begun image proc n (fetch.Trap k) found)) ∙ some in cc

pub short_asks_nothing : (image : ImageValue) (proc : ProcessorValue) (n : ℕ) (short : ShortInsn)
    → step_fetch_of image proc n ≡ fetch.Instruction (short_instruction short) → is_some (request image proc n) ≡ true → ⊥
unfolding request_of
short_asks_nothing image proc n short found some =
    let i = fetch.Instruction (short_instruction short) in
    let e : false ≡ true = sym (ap is_some (request_begun image proc n i found)) ∙ some in cc
