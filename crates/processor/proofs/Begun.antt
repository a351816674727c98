-- What the beginning of a step says of its stream, and the table by it.
use Rattle.std.proofs.Common.{◌≡◌, ℕ, ◌<◌, Bool, true, false, refl, sym, ap, ◌∙◌, length, Option, Some, None}
use Rattle.std.proofs.Common.{List, is_some, if◌then◌else◌, unwrap_or, slice_get}
use Rattle.std.proofs.lemmas.Option.{unwrap_or-slice_get, slice_get_within}
use Rattle.insn_word.specs.declared.profiles.Profile.{Profile}
use Rattle.insn_word.specs.declared.insn.Insn.{Insn}
use Rattle.tag_memory.specs.declared.requests.Request.{Request}
use Rattle.tag_memory.specs.declared.requests.Reply.{Reply}
use Rattle.tag_memory.specs.Storage.{TaggedMemory}
use Rattle.image_file.specs.ImageValue.{ImageValue}
use Rattle.stream_core.specs.Streams.{StreamValue, idle}
use Rattle.stream_core.specs.Effects.{request_of}
use Rattle.stream_core.specs.StreamRow.{fetch_of, fetch_if, control_of}
use Rattle.stream_core.specs.declared.traps.TrapKind.TheVariants as kind
use Rattle.stream_core.specs.declared.steps.Status.{Status}
use Rattle.stream_core.specs.declared.steps.Status.TheVariants.{Idle, Running, Stopped}
use Rattle.stream_core.specs.declared.steps.Fetch.{Fetch}
use Rattle.stream_core.specs.declared.steps.Fetch.TheVariants as fetch
use Rattle.processor.specs.Processors.{ProcessorValue, is_idle, is_idle_status, stream_at}
use Rattle.processor.specs.Row.{lacks_stream, image_fetch, step_fetch_from, step_fetch, step_fetch_at, step_fetch_of}
use Rattle.processor.specs.Row.{request_on_fetch, request_at}
use Rattle.processor.specs.Row.{request, next_asking, next_on_fetch, next_at, next_of, next_step_of}
use Rattle.processor.specs.Row.{row_on_fetch, row_at, row, memory_reply, row_over_memory}
use Rattle.processor.specs.declared.steps.Next.{Next}
use Rattle.processor.specs.declared.steps.Next.TheVariants as next
use Rattle.processor.specs.declared.steps.NextStep.{NextStep}

-- The table by the stream and what its step begins with.

row_seen : (image : ImageValue) (proc : ProcessorValue) (n : ℕ) (r : Option Reply) (o : Option StreamValue)
    (s : StreamValue) → unwrap_or o idle ≡ s
    → row_at image proc n r o ≡ row_on_fetch image proc n r s (step_fetch_at image proc o)
row_seen image proc n r None s e = refl
row_seen image proc n r (Some t) s e = ap (λ x. row_on_fetch image proc n r x (step_fetch image proc t)) e

pub row_is : (image : ImageValue) (proc : ProcessorValue) (n : ℕ) (r : Option Reply)
    → row image proc n r ≡ row_on_fetch image proc n r (stream_at proc.streams n) (step_fetch_of image proc n)
unfolding row step_fetch_of
row_is image proc n r =
    row_seen image proc n r (slice_get proc.streams n) (stream_at proc.streams n)
    (unwrap_or-slice_get proc.streams n idle)

request_seen : (image : ImageValue) (proc : ProcessorValue) (o : Option StreamValue) (s : StreamValue)
    → unwrap_or o idle ≡ s → request_at image proc o ≡ request_on_fetch s (step_fetch_at image proc o)
request_seen image proc None s e = refl
request_seen image proc (Some t) s e = ap (λ x. request_on_fetch x (step_fetch image proc t)) e

request_is : (image : ImageValue) (proc : ProcessorValue) (n : ℕ)
    → request image proc n ≡ request_on_fetch (stream_at proc.streams n) (step_fetch_of image proc n)
unfolding request step_fetch_of
request_is image proc n =
    request_seen image proc (slice_get proc.streams n) (stream_at proc.streams n)
    (unwrap_or-slice_get proc.streams n idle)

next_seen : (image : ImageValue) (proc : ProcessorValue) (o : Option StreamValue) (s : StreamValue)
    → unwrap_or o idle ≡ s → next_at image proc o ≡ next_on_fetch s (step_fetch_at image proc o)
next_seen image proc None s e = refl
next_seen image proc (Some t) s e = ap (λ x. next_on_fetch x (step_fetch image proc t)) e

next_is : (image : ImageValue) (proc : ProcessorValue) (n : ℕ)
    → next_of image proc n ≡ next_on_fetch (stream_at proc.streams n) (step_fetch_of image proc n)
unfolding next_of step_fetch_of
next_is image proc n =
    next_seen image proc (slice_get proc.streams n) (stream_at proc.streams n)
    (unwrap_or-slice_get proc.streams n idle)

-- Where it is known what the step begins with.

pub row_begun : (image : ImageValue) (proc : ProcessorValue) (n : ℕ) (r : Option Reply) (f : Fetch)
    → step_fetch_of image proc n ≡ f → row_on_fetch image proc n r (stream_at proc.streams n) f ≡ row image proc n r
row_begun image proc n r f e =
    sym (row_is image proc n r ∙ ap (row_on_fetch image proc n r (stream_at proc.streams n)) e)

pub request_begun : (image : ImageValue) (proc : ProcessorValue) (n : ℕ) (f : Fetch)
    → step_fetch_of image proc n ≡ f → request image proc n ≡ request_on_fetch (stream_at proc.streams n) f
request_begun image proc n f e = request_is image proc n ∙ ap (request_on_fetch (stream_at proc.streams n)) e

pub next_begun : (image : ImageValue) (proc : ProcessorValue) (n : ℕ) (f : Fetch)
    → step_fetch_of image proc n ≡ f → next_on_fetch (stream_at proc.streams n) f ≡ next_of image proc n
next_begun image proc n f e = sym (next_is image proc n ∙ ap (next_on_fetch (stream_at proc.streams n)) e)

-- what the stream that was read asks
pub asked_there : (proc : ProcessorValue) (n : ℕ) (i : Insn) (s : StreamValue) (o : Option Request)
    → s ≡ stream_at proc.streams n → o ≡ request_of s i → o ≡ request_of (stream_at proc.streams n) i
asked_there proc n i s o is asks = asks ∙ ap (λ x. request_of x i) is

pub next_needed : (image : ImageValue) (proc : ProcessorValue) (n : ℕ) (i : Insn) (s : StreamValue)
    (o : Option Request) → step_fetch_of image proc n ≡ fetch.Instruction i → s ≡ stream_at proc.streams n
    → o ≡ request_of s i → next_asking o ≡ next_of image proc n
next_needed image proc n i s o e is asks =
    ap next_asking (asked_there proc n i s o is asks) ∙ next_begun image proc n (fetch.Instruction i) e

pub row_over_memory_begun : (image : ImageValue) (proc : ProcessorValue) (n : ℕ) (m after : TaggedMemory)
    (f : Fetch) (r : Option Reply) → step_fetch_of image proc n ≡ f
    → (after, r) ≡ memory_reply m (request_on_fetch (stream_at proc.streams n) f)
    → (row_on_fetch image proc n r (stream_at proc.streams n) f, after) ≡ row_over_memory image proc n m
unfolding row_over_memory
row_over_memory_begun image proc n m after f r e answers =
    ap (λ x. (x, after)) (row_begun image proc n r f e)
    ∙ ap (λ (x : TaggedMemory × Option Reply). (row image proc n x.1, x.0))
    (answers ∙ sym (ap (memory_reply m) (request_begun image proc n f e)))

pub is_replied : (m after : TaggedMemory) (o : Option Request) (r : Option Reply) → (after, r) ≡ memory_reply m o
    → is_some r ≡ is_some o
is_replied m after None r e = ap (λ (x : TaggedMemory × Option Reply). is_some x.1) e
is_replied m after (Some q) r e = ap (λ (x : TaggedMemory × Option Reply). is_some x.1) e

-- What a step that begins says of its stream.

abbrev pub rests : Fetch → Bool
rests fetch.Rest = true
rests (fetch.Trap k) = false
rests (fetch.Instruction i) = false

awake_status : (p : Profile) (st : Status) (program : List ℕ) (pc : ℕ) → rests (fetch_if p st program pc) ≡ false
    → is_idle_status st ≡ false
awake_status p Idle program pc e = cc
awake_status p Running program pc e = refl
awake_status p (Stopped k) program pc e = refl

awake_from : (proc : ProcessorValue) (s : StreamValue) (f : Fetch) → rests (step_fetch_from proc s f) ≡ false
    → rests f ≡ false
awake_from proc s fetch.Rest e = e
awake_from proc s (fetch.Trap k) e = refl
awake_from proc s (fetch.Instruction i) e = refl

awake_begun : (image : ImageValue) (proc : ProcessorValue) (s : StreamValue) → rests (step_fetch image proc s) ≡ false
    → is_idle s ≡ false
unfolding step_fetch fetch_of
awake_begun image proc s e =
    awake_status _ s.status image.program s.ssw.pc (awake_from proc s (image_fetch image s) e)

awake_seen : (image : ImageValue) (proc : ProcessorValue) (n : ℕ) (o : Option StreamValue) (s : StreamValue)
    → slice_get proc.streams n ≡ o → unwrap_or o idle ≡ s → rests (step_fetch_at image proc o) ≡ false
    → (n < length proc.streams) × (is_idle s ≡ false)
awake_seen image proc n None s got e there = cc
awake_seen image proc n (Some t) s got e there =
    (slice_get_within proc.streams n t got, ap is_idle (sym e) ∙ awake_begun image proc t there)

-- it is there, and is not idle
pub awake : (image : ImageValue) (proc : ProcessorValue) (n : ℕ) → rests (step_fetch_of image proc n) ≡ false
    → (n < length proc.streams) × (is_idle (stream_at proc.streams n) ≡ false)
unfolding step_fetch_of
awake image proc n there =
    awake_seen image proc n (slice_get proc.streams n) (stream_at proc.streams n) refl
    (unwrap_or-slice_get proc.streams n idle) there

free_if : (b : Bool) (j i : Insn) → (if b then fetch.Trap kind.Create else fetch.Instruction j) ≡ fetch.Instruction i
    → (b ≡ false) × (j ≡ i)
free_if true j i e = cc
free_if false j i e = (refl, cc)

free_from : (proc : ProcessorValue) (s : StreamValue) (f : Fetch) (i : Insn)
    → step_fetch_from proc s f ≡ fetch.Instruction i
    → lacks_stream proc (control_of s i) ≡ false
free_from proc s fetch.Rest i e = cc
free_from proc s (fetch.Trap k) i e = cc
free_from proc s (fetch.Instruction j) i e =
    let found = free_if (lacks_stream proc (control_of s j)) j i e in
    ap (λ x. lacks_stream proc (control_of s x)) (sym found.1) ∙ found.0

free_seen : (image : ImageValue) (proc : ProcessorValue) (o : Option StreamValue) (s : StreamValue) (i : Insn)
    → unwrap_or o idle ≡ s → step_fetch_at image proc o ≡ fetch.Instruction i → lacks_stream proc (control_of s i) ≡ false
unfolding step_fetch
free_seen image proc None s i e runs = cc
free_seen image proc (Some t) s i e runs =
    ap (λ x. lacks_stream proc (control_of x i)) (sym e) ∙ free_from proc t (image_fetch image t) i runs

-- an instruction that runs lacks no stream
pub free : (image : ImageValue) (proc : ProcessorValue) (n : ℕ) (i : Insn) → step_fetch_of image proc n ≡ fetch.Instruction i
    → lacks_stream proc (control_of (stream_at proc.streams n) i) ≡ false
unfolding step_fetch_of
free image proc n i runs =
    free_seen image proc (slice_get proc.streams n) (stream_at proc.streams n) i
    (unwrap_or-slice_get proc.streams n idle) runs

-- What a step needs says what it asks.

local_asks : (o : Option Request) → next_asking o ≡ next.Local → o ≡ None
local_asks None e = refl
local_asks (Some q) e = cc

local_by : (s : StreamValue) (f : Fetch) → next_on_fetch s f ≡ next.Local → request_on_fetch s f ≡ None
local_by s fetch.Rest e = cc
local_by s (fetch.Trap k) e = refl
local_by s (fetch.Instruction i) e = local_asks (request_of s i) e

pub local_request : (image : ImageValue) (proc : ProcessorValue) (n : ℕ) → next_of image proc n ≡ next.Local
    → request image proc n ≡ None
local_request image proc n e =
    request_is image proc n
    ∙ local_by (stream_at proc.streams n) (step_fetch_of image proc n) (sym (next_is image proc n) ∙ e)

ask_asks : (o : Option Request) (q : Request) → next_asking o ≡ next.Ask q → o ≡ Some q
ask_asks None q e = cc
ask_asks (Some p) q e = cc

ask_by : (s : StreamValue) (f : Fetch) (q : Request) → next_on_fetch s f ≡ next.Ask q
    → request_on_fetch s f ≡ Some q
ask_by s fetch.Rest q e = cc
ask_by s (fetch.Trap k) q e = cc
ask_by s (fetch.Instruction i) q e = ask_asks (request_of s i) q e

pub ask_request : (image : ImageValue) (proc : ProcessorValue) (n : ℕ) (q : Request)
    → next_of image proc n ≡ next.Ask q → request image proc n ≡ Some q
ask_request image proc n q e =
    request_is image proc n
    ∙ ask_by (stream_at proc.streams n) (step_fetch_of image proc n) q (sym (next_is image proc n) ∙ e)

-- The same of the parts of a processor.

pub unasked : (image : ImageValue) (now old : ProcessorValue) (n : ℕ) → old ≡ now → next_of image now n ≡ next.Local
    → false ≡ is_some (request image old n)
unasked image now old n same e =
    sym (ap is_some (local_request image old n (ap (λ p. next_of image p n) same ∙ e)))

pub asked : (image : ImageValue) (now old : ProcessorValue) (n : ℕ) (q : Request) → old ≡ now
    → next_of image now n ≡ next.Ask q → true ≡ is_some (request image old n)
asked image now old n q same e =
    sym (ap is_some (ask_request image old n q (ap (λ p. next_of image p n) same ∙ e)))

-- What a caller was told of a step.

pub told_fetch : (image : ImageValue) (now old : ProcessorValue) (n : ℕ) (t : NextStep) → old ≡ now
    → t ≡ next_step_of image now n → t.fetch ≡ step_fetch_of image old n
told_fetch image now old n t same e =
    ap (λ (x : NextStep). x.fetch) e ∙ ap (λ p. step_fetch_of image p n) (sym same)

pub told_next : (image : ImageValue) (now : ProcessorValue) (n : ℕ) (t : NextStep) (x : Next)
    → t ≡ next_step_of image now n → t.next ≡ x → next_of image now n ≡ x
told_next image now n t x e f = sym (ap (λ (y : NextStep). y.next) e) ∙ f
