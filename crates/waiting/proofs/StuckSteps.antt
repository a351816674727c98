-- A stream is stuck exactly where its request is blocked and the retry rules leave it as it is.
use Rattle.std.proofs.Common.{◌≡◌, ℕ, ◌<◌, Bool, true, false, refl, sym, ap, ◌∙◌, subst, arith}
use Rattle.std.proofs.Common.{Option, Some, None, List, length, get_or, set, slice_get, nat_lt, if◌then◌else◌}
use Rattle.std.specs.Prelude.{IsTrue, ◌↔◌, not, ◌⊎◌}
use Rattle.std.proofs.Common.{inl, inr}
use Rattle.std.proofs.lemmas.Bool.Decides.{nat_tests}
use Rattle.std.proofs.lemmas.List.{set-get_or, get_or-set_same}
use Rattle.std.proofs.lemmas.Option.{slice_get_within, get_or_from_slice_get}
use Rattle.tag_memory.specs.Storage.{TaggedMemory}
use Rattle.tag_memory.specs.Answer.{answer}
use Rattle.tag_memory.specs.declared.requests.Request.{Request}
use Rattle.tag_memory.specs.declared.requests.Reply.{Reply}
use Rattle.tag_memory.specs.declared.requests.Reply.TheVariants as reply
use Rattle.image_file.specs.ImageValue.{ImageValue}
use Rattle.stream_core.specs.Streams.{StreamValue, idle}
use Rattle.stream_core.specs.StreamRow.{after_blocked_reply}
use Rattle.stream_core.specs.declared.steps.Outcome.{Outcome}
use Rattle.stream_core.specs.declared.steps.Outcome.TheVariants as outcome
use Rattle.machine.specs.Processor.Processors.{ProcessorValue, stream_at}
use Rattle.machine.specs.Processor.Row.{step_fetch_of, next_of, with_stream, put_back, row_over_memory}
use Rattle.machine.specs.Processor.World.{World, world_step, world_step_at, world_with, stream_of, stream_seen_at}
use Rattle.machine.specs.ProcessorTypes.Next.{Next}
use Rattle.machine.specs.ProcessorTypes.Next.TheVariants as next
use Rattle.machine.specs.ProcessorTypes.Step.{Step}
use Rattle.machine.proofs.Processor.Begun.{rests, awake}
use Rattle.machine.proofs.Processor.World.{world_step-present}
use Rattle.machine.specs.MachineValue.{MachineValue, IsMachine, next_at, next_in}
use Rattle.waiting.specs.Running.{streams_at, runs_at, runs_in}
use Rattle.waiting.specs.Stuck.{IsStuck}
use Rattle.waiting.specs.Deciding.{retries_for_ever, is_kept_by}
use Rattle.waiting.proofs.Needs.{skips, runs-next, rests-begun}
use Rattle.waiting.proofs.Blocked.{is_blocked, IsRefused, blocked_over, refused_over, blocked-kept, kept-blocked}

-- A processor and its stream, as they were.

same_stream : (proc : ProcessorValue) (n : ℕ) → with_stream proc n (stream_at proc.streams n) ≡ proc
same_stream proc n =
    ap (λ (ss : List StreamValue). record proc { streams = ss }) (set-get_or proc.streams n idle)

same_processor : (w : World) (p : ℕ) (proc : ProcessorValue) → slice_get w.processors p ≡ Some proc
    → set w.processors p proc ≡ w.processors
same_processor w p proc there =
    ap (set w.processors p) (sym (get_or_from_slice_get w.processors p proc proc there))
    ∙ set-get_or w.processors p proc

-- where the retry rules keep the stream, the step is Blocked and leaves the world
pub stays-if : (image : ImageValue) (w : World) (t : Step) (proc : ProcessorValue) (q : Request) (a : ℕ)
    → slice_get w.processors t.p ≡ Some proc → next_of image proc t.s ≡ next.Ask q
    → (answer w.memory q).1 ≡ reply.Blocked a
    → retries_for_ever image.retry_limit (stream_at proc.streams t.s) ≡ true
    → world_step image w t ≡ (w, outcome.Blocked)
stays-if image w t proc q a there asks blocked keeps =
    let s = stream_at proc.streams t.s in
    let Over : Type 0 = (ProcessorValue × Outcome) × TaggedMemory in
    let put : StreamValue × Outcome → Over = λ e. (put_back proc t.s e, w.memory) in
    let left : ProcessorValue → Over = λ p. ((p, outcome.Blocked), w.memory) in
    let over : row_over_memory image proc t.s w.memory ≡ ((proc, outcome.Blocked), w.memory) =
    blocked_over image proc t.s w.memory q a asks blocked
    ∙ ap put (blocked-kept image.retry_limit s a keeps) ∙ ap left (same_stream proc t.s) in
    let around : List ProcessorValue → World × Outcome =
    λ ps. (record { processors = ps; memory = w.memory }, outcome.Blocked) in
    sym (world_step-present image w t proc proc w.memory outcome.Blocked there (sym over))
    ∙ ap around (same_processor w t.p proc there)

-- and only there
pub record StaysAt (image : ImageValue) (w : World) (t : Step) (proc : ProcessorValue) : Type 0 where
  pub refused : IsRefused image proc t.s w.memory
  pub keeps : retries_for_ever image.retry_limit (stream_at proc.streams t.s) ≡ true

asks_within : (image : ImageValue) (proc : ProcessorValue) (n : ℕ) (q : Request) → next_of image proc n ≡ next.Ask q
    → n < length proc.streams
asks_within image proc n q asks =
    let goes : rests (step_fetch_of image proc n) ≡ false = rests-begun image proc n ∙ ap skips asks in
    let found = awake image proc n goes in
    found.0

put_same : (image : ImageValue) (w : World) (t : Step) (proc : ProcessorValue) (e : StreamValue × Outcome)
    (m : TaggedMemory) → slice_get w.processors t.p ≡ Some proc → t.s < length proc.streams
    → world_with w t.p (put_back proc t.s e, m) ≡ (w, outcome.Blocked)
    → e ≡ (stream_at proc.streams t.s, outcome.Blocked)
put_same image w t proc e m there within same =
    let changed = with_stream proc t.s e.0 in
    let lists : set w.processors t.p changed ≡ w.processors = ap (λ (x : World × Outcome). x.0.processors) same in
    let one : changed ≡ proc =
    sym (get_or-set_same w.processors t.p changed proc (slice_get_within w.processors t.p proc there))
    ∙ ap (λ ps. get_or ps t.p proc) lists ∙ get_or_from_slice_get w.processors t.p proc proc there in
    let stream : e.0 ≡ stream_at proc.streams t.s =
    sym (get_or-set_same proc.streams t.s e.0 idle within)
    ∙ ap (λ (p : ProcessorValue). stream_at p.streams t.s) one in
    let outcomes : e.1 ≡ outcome.Blocked = ap (λ (x : World × Outcome). x.1) same in
    λ i. (stream i, outcomes i)

pub stays-then : (image : ImageValue) (w : World) (t : Step) (proc : ProcessorValue)
    → slice_get w.processors t.p ≡ Some proc → world_step image w t ≡ (w, outcome.Blocked) → StaysAt image w t proc
unfolding world_step
stays-then image w t proc there same =
    let known : world_with w t.p (row_over_memory image proc t.s w.memory) ≡ (w, outcome.Blocked) =
    sym (ap (world_step_at image w t) there) ∙ same in
    let blocked : is_blocked (row_over_memory image proc t.s w.memory).0.1 ≡ true =
    ap (λ (x : World × Outcome). is_blocked x.1) known in
    let refused = refused_over image proc t.s w.memory blocked in
    let e = after_blocked_reply image.retry_limit (stream_at proc.streams t.s) refused.address in
    let over = blocked_over image proc t.s w.memory refused.request refused.address refused.asks refused.blocked in
    let put : world_with w t.p (put_back proc t.s e, w.memory) ≡ (w, outcome.Blocked) =
    sym (ap (world_with w t.p) over) ∙ known in
    let within = asks_within image proc t.s refused.request refused.asks in
    record {
      refused = refused;
      keeps = kept-blocked image.retry_limit (stream_at proc.streams t.s) refused.address
          (put_same image w t proc e w.memory there within put);
    }

-- What is decided of a stream that is seen, by what its step needs.

abbrev pub stuck_needing : ℕ → TaggedMemory → StreamValue → Next → Bool
stuck_needing limit m s next.Skip = false
stuck_needing limit m s next.Local = false
stuck_needing limit m s (next.Ask q) = is_kept_by limit s (answer m q).1

abbrev pub stuck_seen : ℕ → TaggedMemory → Option StreamValue → Next → Bool
stuck_seen limit m None n = false
stuck_seen limit m (Some s) n = stuck_needing limit m s n

-- a stream that is stuck needs a reply, which is Blocked
needs_reply : (limit : ℕ) (m : TaggedMemory) (s : StreamValue) (n : Next) → stuck_needing limit m s n ≡ true
    → (q : Request) × (n ≡ next.Ask q)
needs_reply limit m s next.Skip e = cc
needs_reply limit m s next.Local e = cc
needs_reply limit m s (next.Ask q) e = (q, refl)

record KeptBy (limit : ℕ) (s : StreamValue) (r : Reply) : Type 0 where
  address : ℕ
  blocked : r ≡ reply.Blocked address
  keeps : retries_for_ever limit s ≡ true

kept_by : (limit : ℕ) (s : StreamValue) (r : Reply) → is_kept_by limit s r ≡ true → KeptBy limit s r
kept_by limit s (reply.Done v) e = cc
kept_by limit s (reply.Blocked a) e = record { address = a; blocked = refl; keeps = e }
kept_by limit s (reply.Trap k a) e = cc

-- where a stream is seen that asks, it is the one that is there
seen_there : (size : ℕ) (proc : ProcessorValue) (n : ℕ) (s : StreamValue) → stream_seen_at size n (Some proc) ≡ Some s
    → s ≡ stream_at proc.streams n
seen_there size proc n s e = by_test (nat_lt n size) e where
  by_test : (b : Bool) → (if b then Some (stream_at proc.streams n) else None) ≡ Some s → s ≡ stream_at proc.streams n
  by_test true f = cc
  by_test false f = cc

absent_needs : (image : ImageValue) (n : ℕ) (q : Request) → next_at image None n ≡ next.Ask q → ⊥
absent_needs image n q e = let no : ⊥ = cc in no

stuck_at : (image : ImageValue) (w : World) (t : Step) (size : ℕ) (o : Option ProcessorValue) (s : StreamValue)
    (q : Request) (a : ℕ) → slice_get w.processors t.p ≡ o → stream_seen_at size t.s o ≡ Some s
    → next_at image o t.s ≡ next.Ask q → (answer w.memory q).1 ≡ reply.Blocked a
    → retries_for_ever image.retry_limit s ≡ true → world_step image w t ≡ (w, outcome.Blocked)
stuck_at image w t size None s q a there seen asks blocked keeps = absurd (absent_needs image t.s q asks)
stuck_at image w t size (Some proc) s q a there seen asks blocked keeps =
    stays-if image w t proc q a there asks blocked
    (sym (ap (retries_for_ever image.retry_limit) (seen_there size proc t.s s seen)) ∙ keeps)

stuck_if : (size : ℕ) (m : MachineValue) (t : Step) (o : Option StreamValue) → stream_of size m.world t.p t.s ≡ o
    → stuck_seen m.image.retry_limit m.world.memory o (next_in m t) ≡ true → IsStuck m.image m.world t
stuck_if size m t None seen e = cc
stuck_if size m t (Some s) seen e =
    let needs = needs_reply m.image.retry_limit m.world.memory s (next_in m t) e in
    let kept = kept_by m.image.retry_limit s (answer m.world.memory needs.0).1
    (sym (ap (stuck_needing m.image.retry_limit m.world.memory s) needs.1) ∙ e) in
    record {
      runs = sym (runs-next m t (next_in m t) refl) ∙ ap (λ n. not (skips n)) needs.1;
      stays = stuck_at m.image m.world t size (slice_get m.world.processors t.p) s needs.0 kept.address refl seen
          needs.1 kept.blocked kept.keeps;
    }

-- a processor that is not there has no stream that runs
pub runs_nowhere : (w : World) (t : Step) → slice_get w.processors t.p ≡ None → runs_in w t ≡ true → ⊥
runs_nowhere w t none runs =
    let is : runs_at (slice_get (streams_at None) t.s) ≡ true =
    sym (ap (λ o. runs_at (slice_get (streams_at o) t.s)) none) ∙ runs in
    let e : ⊥ = cc in e

seen_within : (size : ℕ) (proc : ProcessorValue) (n : ℕ) → n < size
    → stream_seen_at size n (Some proc) ≡ Some (stream_at proc.streams n)
seen_within size proc n below =
    let test : nat_lt n size ≡ true = grind (arith, nat_tests) in
    ap (λ b. if b then Some (stream_at proc.streams n) else None) test

-- a stream that is there is among those that are seen
pub there_below : (size : ℕ) (m : MachineValue) (p : ℕ) (proc : ProcessorValue) (n : ℕ) → IsMachine size m
    → slice_get m.world.processors p ≡ Some proc → n < length proc.streams → n < size
there_below size m p proc n machine there within =
    let at : get_or m.world.processors p proc ≡ proc = get_or_from_slice_get m.world.processors p proc proc there in
    let all = machine.slims p proc (slice_get_within m.world.processors p proc there) in
    let long : length proc.streams ≡ m.image.slim = sym (ap (λ (x : ProcessorValue). length x.streams) at) ∙ all in
    omega (arith, machine.within)

stuck_then : (size : ℕ) (m : MachineValue) (t : Step) (o : Option ProcessorValue) → IsMachine size m
    → slice_get m.world.processors t.p ≡ o → IsStuck m.image m.world t
    → stuck_seen m.image.retry_limit m.world.memory (stream_seen_at size t.s o) (next_at m.image o t.s) ≡ true
stuck_then size m t None machine there stuck = absurd (runs_nowhere m.world t there stuck.runs)
stuck_then size m t (Some proc) machine there stuck =
    let at = stays-then m.image m.world t proc there stuck.stays in
    let within = asks_within m.image proc t.s at.refused.request at.refused.asks in
    let below = there_below size m t.p proc t.s machine there within in
    let limit = m.image.retry_limit in
    let s = stream_at proc.streams t.s in
    ap (λ o. stuck_seen limit m.world.memory o (next_of m.image proc t.s)) (seen_within size proc t.s below)
    ∙ ap (stuck_needing limit m.world.memory s) at.refused.asks
    ∙ ap (is_kept_by limit s) at.refused.blocked ∙ at.keeps

-- what is decided is whether it is stuck
pub stuck-seen : (size : ℕ) (m : MachineValue) (t : Step) → IsMachine size m
    → IsTrue (stuck_seen m.image.retry_limit m.world.memory (stream_of size m.world t.p t.s) (next_in m t))
    ↔ IsStuck m.image m.world t
stuck-seen size m t machine = (
  stuck_if size m t (stream_of size m.world t.p t.s) refl,
  stuck_then size m t (slice_get m.world.processors t.p) machine refl,
)

-- What the code has found.

pub stuck_by : (size : ℕ) (m : MachineValue) (t : Step) (o : Option StreamValue) (n : Next) (b : Bool)
    → IsMachine size m → o ≡ stream_of size m.world t.p t.s → n ≡ next_in m t
    → b ≡ stuck_seen m.image.retry_limit m.world.memory o n → IsTrue b ↔ IsStuck m.image m.world t
stuck_by size m t o n b machine seen needs is =
    let limit = m.image.retry_limit in
    let found : b ≡ stuck_seen limit m.world.memory (stream_of size m.world t.p t.s) (next_in m t) =
    is ∙ ap (λ x. stuck_seen limit m.world.memory x n) seen
    ∙ ap (stuck_seen limit m.world.memory (stream_of size m.world t.p t.s)) needs in
    subst (λ x. IsTrue x ↔ IsStuck m.image m.world t) (sym found) (stuck-seen size m t machine)

-- nothing is asked
pub stuck_unasked : (size : ℕ) (m : MachineValue) (t : Step) (s : StreamValue) (n : Next) → IsMachine size m
    → Some s ≡ stream_of size m.world t.p t.s → n ≡ next_in m t → (n ≡ next.Skip) ⊎ (n ≡ next.Local)
    → IsTrue false ↔ IsStuck m.image m.world t
stuck_unasked size m t s n machine seen needs which =
    let limit = m.image.retry_limit in
    stuck_by size m t (Some s) n false machine seen needs
    (elim which [
      | inl skip ↦ sym (ap (stuck_needing limit m.world.memory s) skip)
      | inr own ↦ sym (ap (stuck_needing limit m.world.memory s) own)
    ])

-- a request gets this reply
pub stuck_asking : (size : ℕ) (m : MachineValue) (t : Step) (image : ImageValue) (limit : ℕ) (s : StreamValue)
    (q : Request) (r : Reply) (b : Bool) → IsMachine size m → Some s ≡ stream_of size m.world t.p t.s
    → next.Ask q ≡ next_in m t → image ≡ m.image → limit ≡ image.retry_limit → r ≡ (answer m.world.memory q).1
    → b ≡ is_kept_by limit s r → IsTrue b ↔ IsStuck m.image m.world t
stuck_asking size m t image limit s q r b machine seen needs same limits replied is =
    let limit_is : limit ≡ m.image.retry_limit = limits ∙ ap (λ (i : ImageValue). i.retry_limit) same in
    stuck_by size m t (Some s) (next.Ask q) b machine seen needs
    (is ∙ ap (λ x. is_kept_by x s r) limit_is ∙ ap (is_kept_by m.image.retry_limit s) replied)
