-- A step that ends a stream beside which nobody asks for one commutes with each step of another stream.
use Rattle.std.proofs.Common.{◌≡◌, ◌≢◌, ℕ, ◌⊎◌, inl, inr, true, false, refl, sym, ap, ◌∙◌, subst}
use Rattle.std.proofs.Common.{Some, slice_get}
use Rattle.std.specs.Prelude.{not}
use Rattle.std.proofs.lemmas.List.{set-set}
use Rattle.insn_word.specs.declared.insn.Insn.{Insn}
use Rattle.tag_memory.specs.Storage.{TaggedMemory}
use Rattle.image_file.specs.ImageValue.{ImageValue}
use Rattle.stream_core.specs.Streams.{StreamValue}
use Rattle.stream_core.specs.Effects.{after_instruction}
use Rattle.stream_core.specs.StreamRow.{control_of}
use Rattle.stream_core.specs.declared.steps.Outcome.{Outcome}
use Rattle.stream_core.specs.declared.steps.Outcome.TheVariants as outcome
use Rattle.stream_core.specs.declared.steps.Fetch.TheVariants as fetch
use Rattle.stream_core.specs.declared.steps.Control.{Control}
use Rattle.stream_core.specs.declared.steps.Control.TheVariants as asks
use Rattle.processor.specs.Processors.{ProcessorValue, is_idle, stream_at}
use Rattle.processor.specs.Row.{grant_of, with_stream, after_control, row_over_memory, next_asking}
use Rattle.processor.specs.World.{World, world_step, after}
use Rattle.processor.specs.declared.steps.Step.{Step}
use Rattle.processor.specs.declared.steps.Next.TheVariants as next
use Rattle.processor.proofs.Begun.{rests, awake, next_begun}
use Rattle.machine.specs.MachineValue.{MachineValue, next_at, next_in}
use Rattle.waiting.specs.Running.{runs_in}
use Rattle.waiting.specs.Stuck.{IsStuck}
use Rattle.waiting.proofs.Needs.{skips, runs-next}
use Rattle.local_steps.specs.NeverAsking.{NeverAsks}
use Rattle.local_steps.specs.EndingSteps.{IsEnding, IsEndingIn, IsEndingStep}
use Rattle.local_steps.proofs.Commuting.{there_same, put, after_there, step_there, kept_stream}
use Rattle.local_steps.proofs.Ended.{IsEnd, end_of, begins, ended, end_over_memory, swap_at, stays_at}
use Rattle.local_steps.proofs.Apart.{asks_now, without, over_memory_apart, never_after}
use Rattle.local_steps.proofs.Orders.{same_or_other}

grants_none : (image : ImageValue) (proc : ProcessorValue) (c : Control) → IsEnding c → grant_of image proc c ≡ 0
grants_none image proc asks.Plain none = absurd none
grants_none image proc (asks.Reserve n) none = absurd none
grants_none image proc (asks.Create child) none = absurd none
grants_none image proc asks.Quit e = refl
grants_none image proc asks.QuitKeep e = refl

-- the processor after stream n, left so by its instruction and granted so many streams, has ended
abbrev without_by : ℕ → StreamValue → ℕ → Control → ProcessorValue → ProcessorValue
without_by n x g c proc = after_control (with_stream proc n x) n g c

-- what it leaves of any processor with this stream
left_without : (image : ImageValue) (proc : ProcessorValue) (n : ℕ) (s : StreamValue) (i : Insn)
    → stream_at proc.streams n ≡ s → IsEnding (control_of s i)
    → ended image proc n i ≡ without n (after_instruction s i 0 0) (control_of s i) proc
left_without image proc n s i same e =
    ap
    (λ (y : StreamValue). (let c = control_of y i in
    let g = grant_of image proc c in
    without_by n (after_instruction y i 0 g) g c proc))
    same
    ∙ ap (λ g. without_by n (after_instruction s i 0 g) g (control_of s i) proc)
    (grants_none image proc (control_of s i) e)

-- Steps t and u are of two streams of one processor: that of t ends there by this instruction, and the others never ask
-- for a stream.
module _ (image : ImageValue) (w : World) (t u : Step) (proc : ProcessorValue) (i : Insn)
    (there : slice_get w.processors t.p ≡ Some proc) (l : IsEnd image (stream_at proc.streams t.s) i)
    (never : (k : ℕ) → k ≢ t.s → NeverAsks image (stream_at proc.streams k)) (same : u.p ≡ t.p) (apart : u.s ≢ t.s) where
  abbrev s : StreamValue
  s = stream_at proc.streams t.s

  abbrev c : Control
  c = control_of s i

  abbrev x : StreamValue
  x = after_instruction s i 0 0

  abbrev to : ProcessorValue
  to = without t.s x c proc

  here : is_idle s ≡ false
  here = (awake image proc t.s (ap rests (begins image proc t.s i l))).1

  -- what the step of u leaves
  abbrev other : (ProcessorValue × Outcome) × TaggedMemory
  other = row_over_memory image proc u.s w.memory

  pub kept : stream_at other.0.0.streams t.s ≡ s
  kept = kept_stream image proc t.s u.s w.memory (λ e. apart (sym e)) here

  kept_end : IsEnd image (stream_at other.0.0.streams t.s) i
  kept_end = subst (λ y. IsEnd image y i) (sym kept) l

  after_u : after image w u ≡ put w t.p other
  after_u =
      after_there image w u proc (ap (slice_get w.processors) same ∙ there)
      ∙ ap (λ p. put w p other) same

  abbrev two : World
  two = put w t.p other

  pub there_two : slice_get two.processors t.p ≡ Some other.0.0
  there_two = there_same w.processors t.p proc other.0.0 there

  pub there_behind : slice_get (after image w u).processors t.p ≡ Some other.0.0
  there_behind = ap (λ (v : World). slice_get v.processors t.p) after_u ∙ there_two

  -- u, then t
  then_t : after image two t ≡ put w t.p ((without t.s x c other.0.0, other.0.1), other.1)
  then_t =
      after_there image two t other.0.0 there_two
      ∙ ap (put two t.p) (end_over_memory image other.0.0 t.s other.1 i kept_end)
      ∙ ap (λ p. put two t.p ((p, outcome.Done), other.1)) (left_without image other.0.0 t.s s i kept l.ends)
      ∙ ap (λ ps. record { processors = ps; memory = other.1 })
      (set-set w.processors t.p other.0.0 (without t.s x c other.0.0))

  abbrev one : World
  one = put w t.p ((to, outcome.Done), w.memory)

  after_t : after image w t ≡ one
  after_t =
      after_there image w t proc there
      ∙ ap (put w t.p) (end_over_memory image proc t.s w.memory i l)
      ∙ ap (λ p. put w t.p ((p, outcome.Done), w.memory)) (left_without image proc t.s s i refl l.ends)

  -- t, then u
  then_u : after image one u ≡ put w t.p ((without t.s x c other.0.0, other.0.1), other.1)
  then_u =
      after_there image one u to
      (ap (slice_get one.processors) same ∙ there_same w.processors t.p proc to there)
      ∙ ap (λ p. put one p (row_over_memory image to u.s w.memory)) same
      ∙ ap (put one t.p)
      (over_memory_apart t.s u.s x (λ e. apart (sym e)) image proc c w.memory l.ends
      (asks_now image (stream_at proc.streams u.s) (never u.s apart)))
      ∙ ap (λ ps. record { processors = ps; memory = other.1 })
      (set-set w.processors t.p to (without t.s x c other.0.0))

  pub swap_ending : after image (after image w t) u ≡ after image (after image w u) t
  swap_ending =
      ap (λ v. after image v u) after_t
      ∙ then_u
      ∙ sym then_t
      ∙ sym (ap (λ v. after image v t) after_u)

  pub stays_ending : IsEndingIn image s → IsEndingStep image (after image w u) t
  stays_ending ending = record {
    processor = other.0.0;
    there = there_behind;
    ending = subst (IsEndingIn image) (sym kept) ending;
    others = λ k far. never_after image proc u.s w.memory k (never u.s apart) (never k far) (same_or_other k u.s);
  }

pub commutes_ending : (image : ImageValue) (w : World) (t u : Step) → IsEndingStep image w t → u ≢ t
    → after image (after image w t) u ≡ after image (after image w u) t
commutes_ending image w t u l apart = by_processor (same_or_other u.p t.p) where
  found : (i : Insn) × IsEnd image (stream_at l.processor.streams t.s) i
  found = end_of image (stream_at l.processor.streams t.s) l.ending

  by_stream : u.p ≡ t.p → (u.s ≡ t.s) ⊎ (u.s ≢ t.s) → after image (after image w t) u ≡ after image (after image w u) t
  by_stream same (inl one) = absurd (apart (λ i. record { p = same i; s = one i }))
  by_stream same (inr two) = swap_ending image w t u l.processor found.0 l.there found.1 l.others same two

  by_processor : (u.p ≡ t.p) ⊎ (u.p ≢ t.p) → after image (after image w t) u ≡ after image (after image w u) t
  by_processor (inl same) = by_stream same (same_or_other u.s t.s)
  by_processor (inr far) =
      swap_at image t l.processor (ended image l.processor t.s found.0)
      (λ m. end_over_memory image l.processor t.s m found.0 found.1) w u l.there far (slice_get w.processors u.p) refl

pub stays_ending_step : (image : ImageValue) (w : World) (t u : Step) → IsEndingStep image w t → u ≢ t
    → IsEndingStep image (after image w u) t
stays_ending_step image w t u l apart = by_processor (same_or_other u.p t.p) where
  found : (i : Insn) × IsEnd image (stream_at l.processor.streams t.s) i
  found = end_of image (stream_at l.processor.streams t.s) l.ending

  by_stream : u.p ≡ t.p → (u.s ≡ t.s) ⊎ (u.s ≢ t.s) → IsEndingStep image (after image w u) t
  by_stream same (inl one) = absurd (apart (λ i. record { p = same i; s = one i }))
  by_stream same (inr two) = stays_ending image w t u l.processor found.0 l.there found.1 l.others same two l.ending

  by_processor : (u.p ≡ t.p) ⊎ (u.p ≢ t.p) → IsEndingStep image (after image w u) t
  by_processor (inl same) = by_stream same (same_or_other u.s t.s)
  by_processor (inr far) = record {
    processor = l.processor;
    there = stays_at image w u t.p l.processor l.there far (slice_get w.processors u.p) refl;
    ending = l.ending;
    others = l.others;
  }

pub not_stuck_ending : (image : ImageValue) (w : World) (t : Step) → IsEndingStep image w t → ¬ (IsStuck image w t)
not_stuck_ending image w t l stuck =
    let found = end_of image (stream_at l.processor.streams t.s) l.ending in
    let blocked : (world_step image w t).1 ≡ outcome.Blocked = ap (λ (e : World × Outcome). e.1) stuck.stays in
    let done : (world_step image w t).1 ≡ outcome.Done =
    ap (λ (e : World × Outcome). e.1) (step_there image w t l.processor l.there)
    ∙ ap (λ (e : (ProcessorValue × Outcome) × TaggedMemory). e.0.1) (end_over_memory image l.processor t.s w.memory found.0 found.1) in
    let both : outcome.Done ≡ outcome.Blocked = sym done ∙ blocked in
    cc

pub runs_ending : (image : ImageValue) (w : World) (t : Step) → IsEndingStep image w t → runs_in w t ≡ true
runs_ending image w t l =
    let m : MachineValue = record { image = image; world = w } in
    let found = end_of image (stream_at l.processor.streams t.s) l.ending in
    let needs : next_in m t ≡ next.Local =
    ap (λ o. next_at image o t.s) l.there
    ∙ sym (next_begun image l.processor t.s (fetch.Instruction found.0) (begins image l.processor t.s found.0 found.1))
    ∙ ap next_asking found.1.unasked in
    sym (runs-next m t (next_in m t) refl) ∙ ap (λ n. not (skips n)) needs
