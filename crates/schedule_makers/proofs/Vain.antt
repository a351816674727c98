-- A step that is blocked and counts no retry leaves the world as it is.
use Rattle.std.proofs.Common.{◌≡◌, ℕ, ◌+◌, ◌<◌, ◌%◌, ◌*◌, ◌^◌, ◌==◌, Bool, true, false, refl, sym, ap, ◌∙◌, arith, set}
use Rattle.std.proofs.Common.{slice_get, List, length, Some, if◌then◌else◌, nat_lt}
use Rattle.std.specs.Prelude.{IsTrue}
use Rattle.std.proofs.lemmas.List.{set-get_or, get_or-set_same}
use Rattle.std.proofs.lemmas.Option.{get_or_from_slice_get}
use Rattle.std.proofs.lemmas.Bool.{eqb-true, eq-eqb}
use Rattle.stream_core.specs.Traps.{trap_number}
use Rattle.stream_core.specs.Streams.{StreamValue, idle, cannot_trap, after_trap_if, after_trap}
use Rattle.stream_core.specs.StreamRow.{after_blocked_reply}
use Rattle.stream_core.specs.declared.traps.TrapKind.{TrapKind}
use Rattle.stream_core.specs.declared.traps.TrapKind.TheVariants as kind
use Rattle.stream_core.specs.declared.steps.Outcome.{Outcome}
use Rattle.stream_core.specs.declared.steps.Outcome.TheVariants as outcome
use Rattle.processor.specs.Processors.{ProcessorValue, stream_at}
use Rattle.processor.specs.Row.{with_stream, put_back, row_over_memory}
use Rattle.processor.specs.World.{World, world_step, world_with}
use Rattle.processor.specs.declared.steps.Step.{Step}
use Rattle.machine.specs.MachineValue.{MachineValue, IsMachine}
use Rattle.waiting.specs.Running.{runs_in}
use Rattle.waiting.specs.Stuck.{IsStandstill}
use Rattle.waiting.proofs.Blocked.{is_blocked, refused_over, blocked_over}
use Rattle.schedule_makers.specs.Advancing.{is_in_vain, retries_at, seen_of}
use Rattle.schedule_makers.proofs.Seen.{runs_there, stepped, next_there, seen_there, room_there}

-- The stream.

abbrev IsAsBefore : StreamValue → StreamValue × Outcome → Type 0
IsAsBefore s e = is_blocked e.1 ≡ true → e.0.retries ≡ s.retries → e.0 ≡ s

either_before : (b : Bool) (s : StreamValue) (x y : StreamValue × Outcome) → IsAsBefore s x → IsAsBefore s y
    → IsAsBefore s (if b then x else y)
either_before true s x y first second = first
either_before false s x y first second = second

trapped_before : (b : Bool) (k : TrapKind) (s u : StreamValue) → IsAsBefore s (after_trap_if b k u)
trapped_before true k s u blocked same = cc
trapped_before false k s u blocked same = cc

blocked_before : (limit : ℕ) (s : StreamValue) (a : ℕ) → IsAsBefore s (after_blocked_reply limit s a)
blocked_before limit s a =
    let waits : StreamValue × Outcome = (s, outcome.Blocked) in
    let counts : StreamValue × Outcome = (record s { retries = s.retries + 1 }, outcome.Blocked) in
    let traps : StreamValue × Outcome = after_trap kind.Blocked a s in
    let last : StreamValue × Outcome = if s.ssw.mask.blocked then waits else traps in
    let more : StreamValue × Outcome = if nat_lt s.retries limit then counts else last in
    let waited : IsAsBefore s waits = λ blocked same. refl in
    let counted : IsAsBefore s counts = λ blocked same. absurd (omega (arith, same)) in
    let trapped : IsAsBefore s traps =
    trapped_before (cannot_trap s) kind.Blocked s
    (record s { xr = trap_number kind.Blocked + a % 2 ^ 48 * 256; retries = 0 }) in
    either_before (limit == 0) s waits more waited
    (either_before (nat_lt s.retries limit) s counts last counted
    (either_before s.ssw.mask.blocked s waits traps waited trapped))

-- The world.

same_world : (w : World) (p n : ℕ) (proc : ProcessorValue) (s : StreamValue) → slice_get w.processors p ≡ Some proc
    → s ≡ stream_at proc.streams n
    → record { processors = set w.processors p (with_stream proc n s); memory = w.memory } ≡ w
same_world w p n proc s there is =
    let stream : with_stream proc n s ≡ proc =
    ap (with_stream proc n) is
    ∙ ap (λ (ss : List StreamValue). record proc { streams = ss }) (set-get_or proc.streams n idle) in
    let all : set w.processors p (with_stream proc n s) ≡ w.processors =
    ap (set w.processors p) (stream ∙ sym (get_or_from_slice_get w.processors p proc proc there))
    ∙ set-get_or w.processors p proc in
    ap (λ ps. record w { processors = ps }) all

-- the retry count that is seen after a step whose stream is put back
count_after : (size : ℕ) (w : World) (t : Step) (proc : ProcessorValue) (e : StreamValue × Outcome) → t.s < size
    → t.s < length proc.streams → slice_get w.processors t.p ≡ Some proc
    → (seen_of size (world_with w t.p (put_back proc t.s e, w.memory)).0 t).retries ≡ e.0.retries
count_after size w t proc e room within there =
    let after = world_with w t.p (put_back proc t.s e, w.memory) in
    ap retries_at (seen_there size after.0 t (with_stream proc t.s e.0) room
    (next_there w t.p proc (with_stream proc t.s e.0) there))
    ∙ ap (λ (s : StreamValue). s.retries) (get_or-set_same proc.streams t.s e.0 idle within)

blocked_vain : (o : Outcome) (before after : ℕ) → is_in_vain o before after ≡ true
    → (is_blocked o ≡ true) × (before ≡ after)
blocked_vain outcome.Skipped before after e = cc
blocked_vain outcome.Done before after e = cc
blocked_vain outcome.Blocked before after e = (refl, eqb-true before after e)
blocked_vain (outcome.Trapped k) before after e = cc
blocked_vain (outcome.Stopped k) before after e = cc

-- a step in vain
pub vain_same : (size : ℕ) (m : MachineValue) (t : Step) (new : World) (o : Outcome) → IsMachine size m
    → IsTrue (runs_in m.world t) → (new, o) ≡ world_step m.image m.world t
    → is_in_vain o (seen_of size m.world t).retries (seen_of size new t).retries ≡ true → new ≡ m.world
vain_same size m t new o machine runs is vain =
    let at = runs_there m.world t runs in
    let s = stream_at at.proc.streams t.s in
    let room = room_there size m t at.proc machine at.there at.within in
    let found = blocked_vain o (seen_of size m.world t).retries (seen_of size new t).retries vain in
    let over = stepped m.image m.world new t o at.proc at.there is in
    let blocked : is_blocked (row_over_memory m.image at.proc t.s m.world.memory).0.1 ≡ true =
    ap (λ (x : World × Outcome). is_blocked x.1) (sym over) ∙ found.0 in
    let refused = refused_over m.image at.proc t.s m.world.memory blocked in
    let e = after_blocked_reply m.image.retry_limit s refused.address in
    let put = blocked_over m.image at.proc t.s m.world.memory refused.request refused.address refused.asks
    refused.blocked in
    let came : (new, o) ≡ world_with m.world t.p (put_back at.proc t.s e, m.world.memory) =
    over ∙ ap (world_with m.world t.p) put in
    let counts : e.0.retries ≡ s.retries =
    sym (count_after size m.world t at.proc e room at.within at.there)
    ∙ ap (λ (x : World × Outcome). (seen_of size x.0 t).retries) (sym came)
    ∙ sym found.1
    ∙ ap retries_at (seen_there size m.world t at.proc room at.there) in
    let is_blocked_too : is_blocked e.1 ≡ true =
    ap (λ (x : World × Outcome). is_blocked x.1) (sym came) ∙ found.0 in
    let kept : e.0 ≡ s = blocked_before m.image.retry_limit s refused.address is_blocked_too counts in
    ap (λ (x : World × Outcome). x.0) came ∙ same_world m.world t.p t.s at.proc e.0 at.there kept

-- Of a standstill each step is in vain.

vain_blocked : (n : ℕ) → is_in_vain outcome.Blocked n n ≡ true
vain_blocked n = eq-eqb n n refl

pub not_still : (size : ℕ) (m : MachineValue) (t : Step) (new : World) (o : Outcome) → IsTrue (runs_in m.world t)
    → (new, o) ≡ world_step m.image m.world t
    → is_in_vain o (seen_of size m.world t).retries (seen_of size new t).retries ≡ false
    → ¬ IsStandstill m.image m.world
not_still size m t new o runs is goes still =
    let stays = is ∙ (still.each t runs).stays in
    let vain : is_in_vain o (seen_of size m.world t).retries (seen_of size new t).retries ≡ true =
    ap (λ (x : World × Outcome). is_in_vain x.1 (seen_of size m.world t).retries (seen_of size x.0 t).retries) stays
    ∙ vain_blocked (seen_of size m.world t).retries in
    cc
