-- What a step that concerns its own stream alone begins with, and what it leaves.
use Rattle.std.proofs.Common.{◌≡◌, ℕ, ◌<◌, false, refl, sym, ap, ◌∙◌, length, Option, Some, None, unwrap_or}
use Rattle.std.proofs.Common.{if◌then◌else◌, slice_get}
use Rattle.std.proofs.lemmas.Option.{unwrap_or-slice_get}
use Rattle.insn_word.specs.declared.insn.Insn.{Insn}
use Rattle.tag_memory.specs.declared.requests.Request.{Request}
use Rattle.tag_memory.specs.declared.requests.Reply.{Reply}
use Rattle.image_file.specs.ImageValue.{ImageValue}
use Rattle.stream_core.specs.Streams.{StreamValue, idle}
use Rattle.stream_core.specs.Effects.{request_of, after_instruction}
use Rattle.stream_core.specs.StreamRow.{fetch_of, plan_asking, plan_from, plan_of, control_of, control_from, control_at, row_asking}
use Rattle.stream_core.specs.declared.traps.TrapKind.TheVariants as kind
use Rattle.stream_core.specs.declared.steps.Outcome.{Outcome}
use Rattle.stream_core.specs.declared.steps.Outcome.TheVariants as outcome
use Rattle.stream_core.specs.declared.steps.Fetch.{Fetch}
use Rattle.stream_core.specs.declared.steps.Fetch.TheVariants as fetch
use Rattle.stream_core.specs.declared.steps.Plan.TheVariants as plan
use Rattle.stream_core.specs.declared.steps.Control.{Control}
use Rattle.stream_core.specs.declared.steps.Control.TheVariants as asks
use Rattle.processor.specs.Processors.{ProcessorValue, is_idle, stream_at}
use Rattle.processor.specs.Row.{lacks_stream, image_fetch, step_fetch_from, step_fetch, step_fetch_at, step_fetch_of}
use Rattle.processor.specs.Row.{request, grant_of, with_stream, after_control_if_done, row}
use Rattle.processor.proofs.Begun.{rests, awake, row_begun, request_begun}
use Rattle.processor.proofs.Awake.{awake-row_asking}
use Rattle.local_steps.specs.LocalSteps.{IsLocalIn}

-- the stream finds this instruction, which asks nothing
pub record IsPlain (image : ImageValue) (s : StreamValue) (i : Insn) : Type 0 where
  pub found : image_fetch image s ≡ fetch.Instruction i
  pub unasked : request_of s i ≡ None
  pub plain : control_of s i ≡ asks.Plain

pub asks_nothing : (o : Option Request) → plan_asking o ≡ plan.Local → o ≡ None
asks_nothing None e = refl
asks_nothing (Some q) e = cc

plain_from : (image : ImageValue) (s : StreamValue) (f : Fetch) → image_fetch image s ≡ f → plan_from s f ≡ plan.Local
    → control_from s f ≡ asks.Plain → (i : Insn) × IsPlain image s i
plain_from image s fetch.Rest found e c = cc
plain_from image s (fetch.Trap k) found e c = cc
plain_from image s (fetch.Instruction i) found e c =
    (i, record { found = found; unasked = asks_nothing (request_of s i) e; plain = c })

pub plain_of : (image : ImageValue) (s : StreamValue) → IsLocalIn image s → (i : Insn) × IsPlain image s i
unfolding plan_of control_at
plain_of image s l = plain_from image s (image_fetch image s) refl l.unasked l.plain

-- an idle stream finds none
idle_finds : (image : ImageValue) (s : StreamValue) (i : Insn) → idle ≡ s → image_fetch image s ≡ fetch.Instruction i → ⊥
unfolding fetch_of
idle_finds image s i e found =
    let none : fetch.Rest ≡ fetch.Instruction i = ap (image_fetch image) e ∙ found in
    cc

-- The step of stream n begins with its instruction.
pub begins : (image : ImageValue) (proc : ProcessorValue) (n : ℕ) (i : Insn)
    → IsPlain image (stream_at proc.streams n) i → step_fetch_of image proc n ≡ fetch.Instruction i
unfolding step_fetch_of step_fetch
begins image proc n i l =
    begins_at (slice_get proc.streams n) (unwrap_or-slice_get proc.streams n idle)
  where
    s : StreamValue
    s = stream_at proc.streams n

    begins_at : (o : Option StreamValue) → unwrap_or o idle ≡ s
        → step_fetch_at image proc o ≡ fetch.Instruction i
    begins_at None e = absurd (idle_finds image s i e l.found)
    begins_at (Some x) e =
        ap (step_fetch image proc) e
        ∙ ap (step_fetch_from proc s) l.found
        ∙ ap (λ c. if lacks_stream proc c then fetch.Trap kind.Create else fetch.Instruction i) l.plain

-- it is there, and is not idle
pub there_awake : (image : ImageValue) (proc : ProcessorValue) (n : ℕ) (i : Insn)
    → IsPlain image (stream_at proc.streams n) i
    → (n < length proc.streams) × (is_idle (stream_at proc.streams n) ≡ false)
there_awake image proc n i l = awake image proc n (ap rests (begins image proc n i l))

pub asks_none : (image : ImageValue) (proc : ProcessorValue) (n : ℕ) (i : Insn)
    → IsPlain image (stream_at proc.streams n) i → request image proc n ≡ None
asks_none image proc n i l = request_begun image proc n (fetch.Instruction i) (begins image proc n i l) ∙ l.unasked

-- the stream after such a step
abbrev pub stepped : StreamValue → Insn → StreamValue
stepped s i = after_instruction s i 0 0

pub stepped_awake : (s : StreamValue) (i : Insn) → is_idle s ≡ false → is_idle (stepped s i) ≡ false
stepped_awake s i h = awake-row_asking 0 s i 0 None None h

-- the row of an instruction that asks so of its processor, and so of the memory
abbrev row_by : ImageValue → ProcessorValue → ℕ → StreamValue → Insn → Option Reply → Control → Option Request
    → ProcessorValue × Outcome
row_by image proc n s i r c o =
    let grant = grant_of image proc c in
    let e = row_asking image.retry_limit s i grant r o in
    (after_control_if_done (with_stream proc n e.0) n grant c e.1, e.1)

-- it is done, and changes its own stream alone
pub row_alone : (image : ImageValue) (proc : ProcessorValue) (n : ℕ) (r : Option Reply) (i : Insn)
    → IsPlain image (stream_at proc.streams n) i
    → row image proc n r ≡ (with_stream proc n (stepped (stream_at proc.streams n) i), outcome.Done)
row_alone image proc n r i l =
    sym (row_begun image proc n r (fetch.Instruction i) (begins image proc n i l))
    ∙ (λ j. row_by image proc n (stream_at proc.streams n) i r (l.plain j) (l.unasked j))
