-- What a step leaves that can be taken before all others: the memory as it is, and each stream but its own.
use Rattle.std.proofs.Common.{◌≡◌, ◌≢◌, ℕ, ◌<◌, ◌⊎◌, inl, inr, false, refl, sym, ap, ◌∙◌, arith}
use Rattle.std.proofs.Common.{if◌then◌else◌, length, set, Option, Some, None, slice_get, unwrap_or}
use Rattle.std.proofs.lemmas.List.{length-set, get_or-set_same, get_or-set_other}
use Rattle.std.proofs.lemmas.Option.{unwrap_or-slice_get}
use Rattle.insn_word.specs.declared.insn.Insn.{Insn}
use Rattle.tag_memory.specs.declared.requests.Request.{Request}
use Rattle.tag_memory.specs.Storage.{TaggedMemory}
use Rattle.image_file.specs.ImageValue.{ImageValue}
use Rattle.stream_core.specs.Streams.{StreamValue, idle}
use Rattle.stream_core.specs.Effects.{after_instruction}
use Rattle.stream_core.specs.StreamRow.{fetch_of, control_of, row_asking}
use Rattle.stream_core.specs.declared.traps.TrapKind.TheVariants as kind
use Rattle.stream_core.specs.declared.steps.Outcome.TheVariants as outcome
use Rattle.stream_core.specs.declared.steps.Fetch.TheVariants as fetch
use Rattle.stream_core.specs.declared.steps.Control.{Control}
use Rattle.stream_core.specs.declared.steps.Control.TheVariants as asks
use Rattle.processor.specs.Processors.{ProcessorValue, stream_at}
use Rattle.processor.specs.Row.{lacks_stream, image_fetch, step_fetch_from, step_fetch, step_fetch_at, step_fetch_of}
use Rattle.processor.specs.Row.{grant_of, with_stream, after_control, after_control_if_done, memory_reply, row_over_memory}
use Rattle.processor.specs.World.{World, after}
use Rattle.processor.specs.declared.steps.Step.{Step}
use Rattle.processor.proofs.Begun.{row_over_memory_begun}
use Rattle.processor.proofs.Histories.{get_set_same, get_set_other}
use Rattle.std.proofs.lemmas.Option.{slice_get_within}
use Rattle.waiting.specs.Running.{streams_at}
use Rattle.agreeing_ends.specs.LocalSteps.LocalSteps.{IsLocalStep}
use Rattle.agreeing_ends.specs.LocalSteps.EndingSteps.{IsEnding, IsEndingStep}
use Rattle.agreeing_ends.specs.LocalSteps.FreeSteps.{IsFreeStep}
use Rattle.agreeing_ends.proofs.LocalSteps.Alone.{IsPlain, plain_of, stepped, there_awake}
use Rattle.agreeing_ends.proofs.LocalSteps.Ended.{IsEnd, end_of, there_ending}
use Rattle.agreeing_ends.proofs.LocalSteps.Commuting.{put, after_there, alone_over_memory}
use Rattle.agreeing_ends.proofs.LocalSteps.Orders.{same_or_other}
use Rattle.schedule_space.specs.Quiet.{stream_of_step}

-- The step of stream n of a processor leaves it this stream in place of its own, and the memory, whatever that holds.
pub record LeavesOthers (image : ImageValue) (proc : ProcessorValue) (n : ℕ) (own : StreamValue) : Type 0 where
  pub to : ProcessorValue
  pub leaves : (m : TaggedMemory) → row_over_memory image proc n m ≡ ((to, outcome.Done), m)
  pub here : stream_at to.streams n ≡ own
  pub others : (k : ℕ) → k ≢ n → stream_at to.streams k ≡ stream_at proc.streams k

-- A step that concerns its stream alone.

pub local_leaves : (image : ImageValue) (proc : ProcessorValue) (n : ℕ) (i : Insn)
    → IsPlain image (stream_at proc.streams n) i → LeavesOthers image proc n (stepped (stream_at proc.streams n) i)
local_leaves image proc n i l =
    let x = stepped (stream_at proc.streams n) i in
    record {
      to = with_stream proc n x;
      leaves = λ m. alone_over_memory image proc n m i l;
      here = get_or-set_same proc.streams n x idle (there_awake image proc n i l).0;
      others = λ k apart. get_or-set_other proc.streams n k x idle apart;
    }

-- A step that ends its stream.

lacks_none : (proc : ProcessorValue) (c : Control) → IsEnding c → lacks_stream proc c ≡ false
lacks_none proc (asks.Create child) none = absurd none
lacks_none proc c e = refl

idle_finds : (image : ImageValue) (s : StreamValue) (i : Insn) → idle ≡ s → image_fetch image s ≡ fetch.Instruction i → ⊥
unfolding fetch_of
idle_finds image s i e found =
    let none : fetch.Rest ≡ fetch.Instruction i = ap (image_fetch image) e ∙ found in
    cc

begins : (image : ImageValue) (proc : ProcessorValue) (n : ℕ) (i : Insn)
    → IsEnd image (stream_at proc.streams n) i → step_fetch_of image proc n ≡ fetch.Instruction i
unfolding step_fetch_of step_fetch
begins image proc n i l =
    begins_at (slice_get proc.streams n) (unwrap_or-slice_get proc.streams n idle)
  where
    s : StreamValue
    s = stream_at proc.streams n

    begins_at : (o : Option StreamValue) → unwrap_or o idle ≡ s
        → step_fetch_at image proc o ≡ fetch.Instruction i
    begins_at None e = absurd (idle_finds image s i e l.found)
    begins_at (Some x) e =
        ap (step_fetch image proc) e
        ∙ ap (step_fetch_from proc s) l.found
        ∙ ap (λ b. if b then fetch.Trap kind.Create else fetch.Instruction i)
        (lacks_none proc (control_of s i) l.ends)

-- the processor after such a step
abbrev ended : ImageValue → ProcessorValue → ℕ → Insn → ProcessorValue
ended image proc n i =
    let s = stream_at proc.streams n in
    let c = control_of s i in
    let g = grant_of image proc c in
    after_control (with_stream proc n (after_instruction s i 0 g)) n g c

ended_over_memory : (image : ImageValue) (proc : ProcessorValue) (n : ℕ) (m : TaggedMemory) (i : Insn)
    → IsEnd image (stream_at proc.streams n) i → row_over_memory image proc n m ≡ ((ended image proc n i, outcome.Done), m)
ended_over_memory image proc n m i l =
    let s = stream_at proc.streams n in
    let c = control_of s i in
    let g = grant_of image proc c in
    sym (row_over_memory_begun image proc n m m (fetch.Instruction i) None (begins image proc n i l)
    (ap (memory_reply m) (sym l.unasked)))
    ∙ ap
    (λ (q : Option Request). (let e = row_asking image.retry_limit s i g None q in
    ((after_control_if_done (with_stream proc n e.0) n g c e.1, e.1), m)))
    l.unasked

ended_here : (proc : ProcessorValue) (n g : ℕ) (x : StreamValue) (c : Control) → IsEnding c → n < length proc.streams
    → stream_at (after_control (with_stream proc n x) n g c).streams n ≡ idle
ended_here proc n g x asks.Plain none there = absurd none
ended_here proc n g x (asks.Reserve m) none there = absurd none
ended_here proc n g x (asks.Create child) none there = absurd none
ended_here proc n g x asks.Quit e there =
    get_or-set_same (set proc.streams n x) n idle idle (omega (arith, there, length-set proc.streams n x))
ended_here proc n g x asks.QuitKeep e there =
    get_or-set_same (set proc.streams n x) n idle idle (omega (arith, there, length-set proc.streams n x))

ended_others : (proc : ProcessorValue) (n k g : ℕ) (x : StreamValue) (c : Control) → IsEnding c → k ≢ n
    → stream_at (after_control (with_stream proc n x) n g c).streams k ≡ stream_at proc.streams k
ended_others proc n k g x asks.Plain none apart = absurd none
ended_others proc n k g x (asks.Reserve m) none apart = absurd none
ended_others proc n k g x (asks.Create child) none apart = absurd none
ended_others proc n k g x asks.Quit e apart =
    get_or-set_other (set proc.streams n x) n k idle idle apart ∙ get_or-set_other proc.streams n k x idle apart
ended_others proc n k g x asks.QuitKeep e apart =
    get_or-set_other (set proc.streams n x) n k idle idle apart ∙ get_or-set_other proc.streams n k x idle apart

pub ending_leaves : (image : ImageValue) (w : World) (t : Step) (l : IsEndingStep image w t)
    → LeavesOthers image l.processor t.s idle
ending_leaves image w t l =
    let s = stream_at l.processor.streams t.s in
    let found = end_of image s l.ending in
    let c = control_of s found.0 in
    let g = grant_of image l.processor c in
    let x = after_instruction s found.0 0 g in
    record {
      to = ended image l.processor t.s found.0;
      leaves = λ m. ended_over_memory image l.processor t.s m found.0 found.1;
      here = ended_here l.processor t.s g x c found.1.ends (there_ending image l.processor t.s l.ending);
      others = λ k apart. ended_others l.processor t.s k g x c found.1.ends apart;
    }

-- Of a world.

module _ (image : ImageValue) (w : World) (t : Step) (proc : ProcessorValue) (own : StreamValue)
    (there : slice_get w.processors t.p ≡ Some proc) (l : LeavesOthers image proc t.s own) where
  after_left : after image w t ≡ record { processors = set w.processors t.p l.to; memory = w.memory }
  after_left = after_there image w t proc there ∙ ap (put w t.p) (l.leaves w.memory)

  left_there : slice_get (after image w t).processors t.p ≡ Some l.to
  left_there =
      ap (λ (x : World). slice_get x.processors t.p) after_left
      ∙ get_set_same w.processors t.p l.to (slice_get_within w.processors t.p proc there)

  pub memory_left : (after image w t).memory ≡ w.memory
  memory_left = ap (λ (x : World). x.memory) after_left

  pub own_left : stream_of_step (after image w t) t ≡ own
  own_left = ap (λ o. stream_at (streams_at o) t.s) left_there ∙ l.here

  pub others_left : (u : Step) → u ≢ t → stream_of_step (after image w t) u ≡ stream_of_step w u
  others_left u apart = by_processor (same_or_other u.p t.p) where
    by_stream : u.p ≡ t.p → (u.s ≡ t.s) ⊎ (u.s ≢ t.s) → stream_of_step (after image w t) u ≡ stream_of_step w u
    by_stream same (inl one) = absurd (apart (λ i. record { p = same i; s = one i }))
    by_stream same (inr two) =
        ap (λ p. stream_at (streams_at (slice_get (after image w t).processors p)) u.s) same
        ∙ ap (λ o. stream_at (streams_at o) u.s) left_there
        ∙ l.others u.s two
        ∙ sym (ap (λ o. stream_at (streams_at o) u.s) there)
        ∙ sym (ap (λ p. stream_at (streams_at (slice_get w.processors p)) u.s) same)

    by_processor : (u.p ≡ t.p) ⊎ (u.p ≢ t.p) → stream_of_step (after image w t) u ≡ stream_of_step w u
    by_processor (inl same) = by_stream same (same_or_other u.s t.s)
    by_processor (inr far) =
        ap (λ (x : World). stream_at (streams_at (slice_get x.processors u.p)) u.s) after_left
        ∙ ap (λ o. stream_at (streams_at o) u.s) (get_set_other w.processors t.p u.p l.to far)

-- the stream that a step names, where its processor is there
pub named_there : (w : World) (t : Step) (proc : ProcessorValue) → slice_get w.processors t.p ≡ Some proc
    → stream_of_step w t ≡ stream_at proc.streams t.s
named_there w t proc there = ap (λ o. stream_at (streams_at o) t.s) there

-- the stream after a step that concerns it alone
pub stepped_local : (image : ImageValue) (w : World) (t : Step) (l : IsLocalStep image w t) (i : Insn)
    → IsPlain image (stream_at l.processor.streams t.s) i
    → stream_of_step (after image w t) t ≡ stepped (stream_at l.processor.streams t.s) i
stepped_local image w t l i plain =
    own_left image w t l.processor (stepped (stream_at l.processor.streams t.s) i) l.there
    (local_leaves image l.processor t.s i plain)

-- after one that ends it
pub stepped_ending : (image : ImageValue) (w : World) (t : Step) → IsEndingStep image w t
    → stream_of_step (after image w t) t ≡ idle
stepped_ending image w t l = own_left image w t l.processor idle l.there (ending_leaves image w t l)

-- such a step leaves the memory
pub free_memory : (image : ImageValue) (w : World) (t : Step) → IsFreeStep image w t
    → (after image w t).memory ≡ w.memory
free_memory image w t (inl l) =
    let found = plain_of image (stream_at l.processor.streams t.s) l.alone in
    memory_left image w t l.processor (stepped (stream_at l.processor.streams t.s) found.0) l.there
    (local_leaves image l.processor t.s found.0 found.1)
free_memory image w t (inr l) = memory_left image w t l.processor idle l.there (ending_leaves image w t l)

-- and each stream but its own
pub free_others : (image : ImageValue) (w : World) (t u : Step) → IsFreeStep image w t → u ≢ t
    → stream_of_step (after image w t) u ≡ stream_of_step w u
free_others image w t u (inl l) =
    let found = plain_of image (stream_at l.processor.streams t.s) l.alone in
    others_left image w t l.processor (stepped (stream_at l.processor.streams t.s) found.0) l.there
    (local_leaves image l.processor t.s found.0 found.1) u
free_others image w t u (inr l) = others_left image w t l.processor idle l.there (ending_leaves image w t l) u
