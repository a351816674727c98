-- What a step does whose request is blocked, and that no other step has the outcome Blocked.
use Rattle.std.proofs.Common.{◌≡◌, ℕ, ◌+◌, ◌%◌, ◌*◌, ◌^◌, ◌==◌, ◌||◌, ◌&&◌, Bool, true, false, refl, sym, ap, ◌∙◌}
use Rattle.std.proofs.Common.{arith, Option, Some, None, if◌then◌else◌, nat_lt, nat_le}
use Rattle.std.specs.Prelude.{not}
use Rattle.std.proofs.lemmas.Bool.Decides.{nat_tests}
use Rattle.insn_word.specs.declared.insn.Insn.{Insn}
use Rattle.tag_memory.specs.Storage.{TaggedMemory}
use Rattle.tag_memory.specs.Answer.{answer}
use Rattle.tag_memory.specs.declared.requests.Request.{Request}
use Rattle.tag_memory.specs.declared.requests.Reply.{Reply}
use Rattle.tag_memory.specs.declared.requests.Reply.TheVariants as reply
use Rattle.image_file.specs.ImageValue.{ImageValue}
use Rattle.stream_core.specs.Traps.{trap_number, memory_trap}
use Rattle.stream_core.specs.Streams.{StreamValue, cannot_trap, after_trap_if, after_trap}
use Rattle.stream_core.specs.Effects.{request_of}
use Rattle.stream_core.specs.StreamRow.{control_of, after_blocked_reply, after_reply, row_asking}
use Rattle.stream_core.specs.declared.traps.TrapKind.{TrapKind}
use Rattle.stream_core.specs.declared.traps.TrapKind.TheVariants as kind
use Rattle.stream_core.specs.declared.steps.Outcome.{Outcome}
use Rattle.stream_core.specs.declared.steps.Outcome.TheVariants as outcome
use Rattle.stream_core.specs.declared.steps.Fetch.{Fetch}
use Rattle.stream_core.specs.declared.steps.Fetch.TheVariants as fetch
use Rattle.stream_core.specs.declared.steps.Control.{Control}
use Rattle.machine.specs.Processor.Processors.{ProcessorValue, stream_at}
use Rattle.machine.specs.Processor.Row.{step_fetch_of, request_on_fetch, next_asking, next_on_fetch, next_of}
use Rattle.machine.specs.Processor.Row.{grant_of, with_stream, after_control_if_done, put_back, row_on_fetch, row}
use Rattle.machine.specs.Processor.Row.{memory_reply, row_over_memory}
use Rattle.machine.specs.ProcessorTypes.Next.TheVariants as next
use Rattle.machine.proofs.Processor.Begun.{row_is, request_begun, next_begun, ask_request}
use Rattle.waiting.specs.Deciding.{retries_for_ever}
use Rattle.waiting.proofs.Refusals.{is_refusal, refused_kept}

-- Outcomes.

abbrev pub is_blocked : Outcome → Bool
is_blocked outcome.Skipped = false
is_blocked outcome.Done = false
is_blocked outcome.Blocked = true
is_blocked (outcome.Trapped k) = false
is_blocked (outcome.Stopped k) = false

abbrev is_done : Outcome → Bool
is_done outcome.Skipped = false
is_done outcome.Done = true
is_done outcome.Blocked = false
is_done (outcome.Trapped k) = false
is_done (outcome.Stopped k) = false

trap_if-blocked : (b : Bool) (k : TrapKind) (s : StreamValue) → is_blocked (after_trap_if b k s).1 ≡ false
trap_if-blocked true k s = refl
trap_if-blocked false k s = refl

trap-blocked : (k : TrapKind) (a : ℕ) (s : StreamValue) → is_blocked (after_trap k a s).1 ≡ false
trap-blocked k a s =
    trap_if-blocked (cannot_trap s) k (record s { xr = trap_number k + a % 2 ^ 48 * 256; retries = 0 })

trap_if-done : (b : Bool) (k : TrapKind) (s : StreamValue) → is_done (after_trap_if b k s).1 ≡ false
trap_if-done true k s = refl
trap_if-done false k s = refl

trap-done : (k : TrapKind) (a : ℕ) (s : StreamValue) → is_done (after_trap k a s).1 ≡ false
trap-done k a s =
    trap_if-done (cannot_trap s) k (record s { xr = trap_number k + a % 2 ^ 48 * 256; retries = 0 })

either-done : (b : Bool) (x y : StreamValue × Outcome) → is_done x.1 ≡ false → is_done y.1 ≡ false
    → is_done (if b then x else y).1 ≡ false
either-done true x y first second = first
either-done false x y first second = second

blocked-done : (limit : ℕ) (s : StreamValue) (a : ℕ) → is_done (after_blocked_reply limit s a).1 ≡ false
blocked-done limit s a =
    let waits : StreamValue × Outcome = (s, outcome.Blocked) in
    let counts : StreamValue × Outcome = (record s { retries = s.retries + 1 }, outcome.Blocked) in
    let last : StreamValue × Outcome = if s.ssw.mask.blocked then waits else after_trap kind.Blocked a s in
    let more : StreamValue × Outcome = if nat_lt s.retries limit then counts else last in
    either-done (limit == 0) waits more refl
    (either-done (nat_lt s.retries limit) counts last refl
    (either-done s.ssw.mask.blocked waits (after_trap kind.Blocked a s) refl (trap-done kind.Blocked a s)))

-- The retry rules.

abbrev chosen : Bool → Bool → Bool → StreamValue × Outcome → StreamValue × Outcome → StreamValue × Outcome
    → StreamValue × Outcome
chosen zero below masked waits counts traps =
    if zero then waits else if below then counts else if masked then waits else traps

waits_if : (zero below least masked : Bool) (waits counts traps : StreamValue × Outcome) → below ≡ not least
    → (zero || (least && masked)) ≡ true → chosen zero below masked waits counts traps ≡ waits
waits_if true below least masked waits counts traps e h = refl
waits_if false true true masked waits counts traps e h = cc
waits_if false true false masked waits counts traps e h = cc
waits_if false false true true waits counts traps e h = refl
waits_if false false true false waits counts traps e h = cc
waits_if false false false masked waits counts traps e h = cc

waits_then : (zero below least masked : Bool) (waits counts traps : StreamValue × Outcome) → below ≡ not least
    → (counts ≡ waits → ⊥) → (traps ≡ waits → ⊥) → chosen zero below masked waits counts traps ≡ waits
    → (zero || (least && masked)) ≡ true
waits_then true below least masked waits counts traps e grows trap h = refl
waits_then false true least masked waits counts traps e grows trap h = absurd (grows h)
waits_then false false true true waits counts traps e grows trap h = refl
waits_then false false true false waits counts traps e grows trap h = absurd (trap h)
waits_then false false false masked waits counts traps e grows trap h = cc

below_or_least : (n limit : ℕ) → nat_lt n limit ≡ not (nat_le limit n)
below_or_least n limit = grind (arith, nat_tests)

-- a block leaves the stream as it is, where the rules say so
pub blocked-kept : (limit : ℕ) (s : StreamValue) (a : ℕ) → retries_for_ever limit s ≡ true
    → after_blocked_reply limit s a ≡ (s, outcome.Blocked)
blocked-kept limit s a h =
    waits_if (limit == 0) (nat_lt s.retries limit) (nat_le limit s.retries) s.ssw.mask.blocked (s, outcome.Blocked)
    (record s { retries = s.retries + 1 }, outcome.Blocked) (after_trap kind.Blocked a s)
    (below_or_least s.retries limit) h

grows_not : (s : StreamValue) (t : StreamValue) → t.retries ≡ s.retries + 1
    → (let x : StreamValue × Outcome = (t, outcome.Blocked) in x ≡ (s, outcome.Blocked)) → ⊥
grows_not s t grown e =
    let same : t.retries ≡ s.retries = ap (λ (x : StreamValue × Outcome). x.0.retries) e in
    omega arith

traps_not : (s : StreamValue) (x : StreamValue × Outcome) → is_blocked x.1 ≡ false → x ≡ (s, outcome.Blocked) → ⊥
traps_not s x trapped e =
    let same : is_blocked x.1 ≡ true = ap (λ (y : StreamValue × Outcome). is_blocked y.1) e in
    cc

-- and only there
pub kept-blocked : (limit : ℕ) (s : StreamValue) (a : ℕ) → after_blocked_reply limit s a ≡ (s, outcome.Blocked)
    → retries_for_ever limit s ≡ true
kept-blocked limit s a h =
    waits_then (limit == 0) (nat_lt s.retries limit) (nat_le limit s.retries) s.ssw.mask.blocked (s, outcome.Blocked)
    (record s { retries = s.retries + 1 }, outcome.Blocked) (after_trap kind.Blocked a s)
    (below_or_least s.retries limit)
    (grows_not s (record s { retries = s.retries + 1 }) refl)
    (traps_not s (after_trap kind.Blocked a s) (trap-blocked kind.Blocked a s)) h

-- The row of a blocked request.

control_if : (proc : ProcessorValue) (n grant : ℕ) (asking : Control) (o : Outcome) → is_done o ≡ false
    → after_control_if_done proc n grant asking o ≡ proc
control_if proc n grant asking outcome.Skipped e = refl
control_if proc n grant asking outcome.Done e = cc
control_if proc n grant asking outcome.Blocked e = refl
control_if proc n grant asking (outcome.Trapped k) e = refl
control_if proc n grant asking (outcome.Stopped k) e = refl

-- the row of an instruction whose stream comes to this
abbrev executed_row : ProcessorValue → ℕ → ℕ → Control → StreamValue × Outcome → ProcessorValue × Outcome
executed_row proc n grant asking e = (after_control_if_done (with_stream proc n e.0) n grant asking e.1, e.1)

blocked_instruction : (image : ImageValue) (proc : ProcessorValue) (n : ℕ) (s : StreamValue) (i : Insn) (a : ℕ)
    (q : Request) → request_of s i ≡ Some q
    → row_on_fetch image proc n (Some (reply.Blocked a)) s (fetch.Instruction i)
    ≡ put_back proc n (after_blocked_reply image.retry_limit s a)
blocked_instruction image proc n s i a q asks =
    let control = control_of s i in
    let grant = grant_of image proc control in
    let e = after_blocked_reply image.retry_limit s a in
    ap (λ o. executed_row proc n grant control
    (row_asking image.retry_limit s i grant (Some (reply.Blocked a)) o)) asks
    ∙ ap (λ (p : ProcessorValue). (p, e.1))
    (control_if (with_stream proc n e.0) n grant control e.1 (blocked-done image.retry_limit s a))

ask_asks : (o : Option Request) (q : Request) → next_asking o ≡ next.Ask q → o ≡ Some q
ask_asks None q e = cc
ask_asks (Some p) q e = cc

blocked_fetch : (image : ImageValue) (proc : ProcessorValue) (n : ℕ) (s : StreamValue) (f : Fetch) (a : ℕ)
    (q : Request) → next_on_fetch s f ≡ next.Ask q
    → row_on_fetch image proc n (Some (reply.Blocked a)) s f
    ≡ put_back proc n (after_blocked_reply image.retry_limit s a)
blocked_fetch image proc n s fetch.Rest a q asks = cc
blocked_fetch image proc n s (fetch.Trap k) a q asks = cc
blocked_fetch image proc n s (fetch.Instruction i) a q asks =
    blocked_instruction image proc n s i a q (ask_asks (request_of s i) q asks)

blocked_row : (image : ImageValue) (proc : ProcessorValue) (n a : ℕ) (q : Request)
    → next_of image proc n ≡ next.Ask q
    → row image proc n (Some (reply.Blocked a))
    ≡ put_back proc n (after_blocked_reply image.retry_limit (stream_at proc.streams n) a)
blocked_row image proc n a q asks =
    let f = step_fetch_of image proc n in
    row_is image proc n (Some (reply.Blocked a))
    ∙ blocked_fetch image proc n (stream_at proc.streams n) f a q (next_begun image proc n f refl ∙ asks)

-- a step whose request is blocked leaves the memory, and of its processor all but its stream
pub blocked_over : (image : ImageValue) (proc : ProcessorValue) (n : ℕ) (m : TaggedMemory) (q : Request) (a : ℕ)
    → next_of image proc n ≡ next.Ask q → (answer m q).1 ≡ reply.Blocked a
    → row_over_memory image proc n m
    ≡ (put_back proc n (after_blocked_reply image.retry_limit (stream_at proc.streams n) a), m)
unfolding row_over_memory
blocked_over image proc n m q a asks blocked =
    let Over : Type 0 = (ProcessorValue × Outcome) × TaggedMemory in
    let by : Option Request → Over = λ o. (row image proc n (memory_reply m o).1, (memory_reply m o).0) in
    let replied : Reply → Over = λ r. (row image proc n (Some r), (answer m q).0) in
    let left : TaggedMemory → Over = λ x. (row image proc n (Some (reply.Blocked a)), x) in
    let kept : ProcessorValue × Outcome → Over = λ x. (x, m) in
    ap by (ask_request image proc n q asks)
    ∙ ap replied blocked
    ∙ ap left (refused_kept m q (ap is_refusal blocked))
    ∙ ap kept (blocked_row image proc n a q asks)

-- No other step is Blocked.

-- the step of a stream asks this, and its request is blocked at this address
pub record IsRefused (image : ImageValue) (proc : ProcessorValue) (n : ℕ) (m : TaggedMemory) : Type 0 where
  pub request : Request
  pub address : ℕ
  pub asks : next_of image proc n ≡ next.Ask request
  pub blocked : (answer m request).1 ≡ reply.Blocked address

record IsBlockedAt (m : TaggedMemory) (o : Option Request) : Type 0 where
  request : Request
  address : ℕ
  asks : next_asking o ≡ next.Ask request
  blocked : (answer m request).1 ≡ reply.Blocked address

replied_blocked : (limit : ℕ) (s : StreamValue) (i : Insn) (grant : ℕ) (m : TaggedMemory) (q : Request) (r : Reply)
    → (answer m q).1 ≡ r → is_blocked (after_reply limit s i grant r).1 ≡ true → IsBlockedAt m (Some q)
replied_blocked limit s i grant m q (reply.Done v) is e = cc
replied_blocked limit s i grant m q (reply.Blocked a) is e =
    record { request = q; address = a; asks = refl; blocked = is }
replied_blocked limit s i grant m q (reply.Trap k a) is e =
    let trapped = trap-blocked (memory_trap k) a s in cc

asked_blocked : (limit : ℕ) (s : StreamValue) (i : Insn) (grant : ℕ) (m : TaggedMemory) (o : Option Request)
    → is_blocked (row_asking limit s i grant (memory_reply m o).1 o).1 ≡ true → IsBlockedAt m o
asked_blocked limit s i grant m None e = cc
asked_blocked limit s i grant m (Some q) e = replied_blocked limit s i grant m q (answer m q).1 refl e

-- the same of what a step begins with
record IsBlockedOn (m : TaggedMemory) (s : StreamValue) (f : Fetch) : Type 0 where
  request : Request
  address : ℕ
  asks : next_on_fetch s f ≡ next.Ask request
  blocked : (answer m request).1 ≡ reply.Blocked address

fetched_blocked : (image : ImageValue) (proc : ProcessorValue) (n : ℕ) (m : TaggedMemory) (s : StreamValue) (f : Fetch)
    → is_blocked (row_on_fetch image proc n (memory_reply m (request_on_fetch s f)).1 s f).1 ≡ true
    → IsBlockedOn m s f
fetched_blocked image proc n m s fetch.Rest e = cc
fetched_blocked image proc n m s (fetch.Trap k) e = let trapped = trap-blocked k 0 s in cc
fetched_blocked image proc n m s (fetch.Instruction i) e =
    let found = asked_blocked image.retry_limit s i (grant_of image proc (control_of s i)) m (request_of s i) e in
    record { request = found.request; address = found.address; asks = found.asks; blocked = found.blocked }

-- the outcome of a step over a memory, by what it begins with
outcome_begun : (image : ImageValue) (proc : ProcessorValue) (n : ℕ) (m : TaggedMemory) (f : Fetch)
    → step_fetch_of image proc n ≡ f
    → (row_over_memory image proc n m).0.1
    ≡ (row_on_fetch image proc n (memory_reply m (request_on_fetch (stream_at proc.streams n) f)).1
    (stream_at proc.streams n) f).1
unfolding row_over_memory
outcome_begun image proc n m f e =
    ap (λ o. (row image proc n (memory_reply m o).1).1) (request_begun image proc n f e)
    ∙ ap (λ (x : ProcessorValue × Outcome). x.1)
    (row_is image proc n (memory_reply m (request_on_fetch (stream_at proc.streams n) f)).1)
    ∙ ap (λ g. (row_on_fetch image proc n (memory_reply m (request_on_fetch (stream_at proc.streams n) f)).1
    (stream_at proc.streams n) g).1) e

pub refused_over : (image : ImageValue) (proc : ProcessorValue) (n : ℕ) (m : TaggedMemory)
    → is_blocked (row_over_memory image proc n m).0.1 ≡ true → IsRefused image proc n m
refused_over image proc n m e =
    let f = step_fetch_of image proc n in
    let found = fetched_blocked image proc n m (stream_at proc.streams n) f
    (sym (ap is_blocked (outcome_begun image proc n m f refl)) ∙ e) in
    record {
      request = found.request;
      address = found.address;
      asks = sym (next_begun image proc n f refl) ∙ found.asks;
      blocked = found.blocked;
    }
