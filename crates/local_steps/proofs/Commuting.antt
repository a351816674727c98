-- A step that concerns its own stream alone commutes with each step of another stream, and can be taken after it too.
use Rattle.std.proofs.Common.{◌≡◌, ◌≢◌, ℕ, ◌<◌, ◌≤◌, ◌⊎◌, inl, inr, false, refl, sym, ap, ◌∙◌, arith, subst}
use Rattle.std.proofs.Common.{List, length, set, Option, Some, None, slice_get}
use Rattle.std.proofs.lemmas.Bool.{cases_lt}
use Rattle.std.proofs.lemmas.List.{length-set, get_or-set_same, get_or-set_other, set_comm, set-set}
use Rattle.std.proofs.lemmas.Option.{slice_get-get_or, slice_get_past, slice_get_within}
use Rattle.tag_memory.specs.Storage.{TaggedMemory}
use Rattle.image_file.specs.ImageValue.{ImageValue}
use Rattle.stream_core.specs.Streams.{StreamValue}
use Rattle.insn_word.specs.declared.insn.Insn.{Insn}
use Rattle.stream_core.specs.declared.steps.Outcome.{Outcome}
use Rattle.stream_core.specs.declared.steps.Outcome.TheVariants as outcome
use Rattle.processor.specs.Processors.{ProcessorValue, is_idle, stream_at}
use Rattle.processor.specs.Row.{with_stream, row, memory_reply, row_over_memory}
use Rattle.processor.specs.World.{World, world_step, after}
use Rattle.processor.specs.OtherStreams.{IsStarted}
use Rattle.processor.specs.declared.steps.Step.{Step}
use Rattle.processor.proofs.Histories.{after-absent}
use Rattle.processor.proofs.OtherStreams.{kept_row_over_memory}
use Rattle.processor.proofs.World.{world_step-present}
use Rattle.local_steps.specs.LocalSteps.{IsLocalIn, IsLocalStep}
use Rattle.local_steps.proofs.Alone.{IsPlain, there_awake, asks_none, stepped, stepped_awake, row_alone}
use Rattle.local_steps.proofs.Beside.{never_first, over_memory_beside}

-- A step of the world by its processor.

pub there_same : {X : Type 0} (xs : List X) (p : ℕ) (x y : X) → slice_get xs p ≡ Some x → slice_get (set xs p y) p ≡ Some y
there_same xs p x y got =
    let within = slice_get_within xs p x got in
    slice_get-get_or (set xs p y) p y (omega (arith, within, length-set xs p y))
    ∙ ap Some (get_or-set_same xs p y y within)

pub there_other : {X : Type 0} (xs : List X) (p q : ℕ) (x y : X) → q ≢ p → slice_get xs q ≡ Some x
    → slice_get (set xs p y) q ≡ Some x
there_other xs p q x y apart got =
    let within = slice_get_within xs q x got in
    slice_get-get_or (set xs p y) q x (omega (arith, within, length-set xs p y))
    ∙ ap Some (get_or-set_other xs p q y x apart)
    ∙ sym (slice_get-get_or xs q x within)
    ∙ got

-- the world with a processor and a memory after a step
abbrev pub put : World → ℕ → (ProcessorValue × Outcome) × TaggedMemory → World
put w p e = record { processors = set w.processors p e.0.0; memory = e.1 }

pub step_there : (image : ImageValue) (w : World) (t : Step) (proc : ProcessorValue) → slice_get w.processors t.p ≡ Some proc
    → world_step image w t ≡ (put w t.p (row_over_memory image proc t.s w.memory), (row_over_memory image proc t.s w.memory).0.1)
step_there image w t proc there =
    let e = row_over_memory image proc t.s w.memory in
    sym (world_step-present image w t proc e.0.0 e.1 e.0.1 there refl)

pub after_there : (image : ImageValue) (w : World) (t : Step) (proc : ProcessorValue)
    → slice_get w.processors t.p ≡ Some proc
    → after image w t ≡ put w t.p (row_over_memory image proc t.s w.memory)
after_there image w t proc there = ap (λ (x : World × Outcome). x.0) (step_there image w t proc there)

pub alone_over_memory : (image : ImageValue) (proc : ProcessorValue) (n : ℕ) (m : TaggedMemory) (i : Insn)
    → IsPlain image (stream_at proc.streams n) i
    → row_over_memory image proc n m ≡ ((with_stream proc n (stepped (stream_at proc.streams n) i), outcome.Done), m)
unfolding row_over_memory
alone_over_memory image proc n m i l =
    (λ j. (
      row image proc n (memory_reply m (asks_none image proc n i l j)).1,
      (memory_reply m (asks_none image proc n i l j)).0,
    ))
    ∙ ap (λ p. (p, m)) (row_alone image proc n None i l)

-- the world with a stream changed
abbrev pub with_stream_of : World → ℕ → ProcessorValue → ℕ → StreamValue → World
with_stream_of w p proc n x = record { processors = set w.processors p (with_stream proc n x); memory = w.memory }

-- the world after such a step
after_alone : (image : ImageValue) (w : World) (t : Step) (proc : ProcessorValue) (i : Insn)
    → slice_get w.processors t.p ≡ Some proc → IsPlain image (stream_at proc.streams t.s) i
    → after image w t ≡ with_stream_of w t.p proc t.s (stepped (stream_at proc.streams t.s) i)
after_alone image w t proc i there l =
    after_there image w t proc there ∙ ap (put w t.p) (alone_over_memory image proc t.s w.memory i l)

-- the step of another stream leaves a stream that is not idle as it is
pub kept_stream : (image : ImageValue) (proc : ProcessorValue) (k n : ℕ) (m : TaggedMemory) → k ≢ n
    → is_idle (stream_at proc.streams k) ≡ false
    → stream_at (row_over_memory image proc n m).0.0.streams k ≡ stream_at proc.streams k
kept_stream image proc k n m apart here = by_kind ((kept_row_over_memory image proc n m).others k apart) where
  to : ProcessorValue
  to = (row_over_memory image proc n m).0.0

  by_kind : (stream_at to.streams k ≡ stream_at proc.streams k) ⊎ IsStarted proc to k
      → stream_at to.streams k ≡ stream_at proc.streams k
  by_kind (inl same) = same
  by_kind (inr started) = absurd (never_first proc.streams k here started.0)

-- Steps t and u are of two streams of one processor, and that of t concerns its stream alone.
module _ (image : ImageValue) (w : World) (t u : Step) (proc : ProcessorValue) (i : Insn)
    (there : slice_get w.processors t.p ≡ Some proc) (l : IsPlain image (stream_at proc.streams t.s) i)
    (same : u.p ≡ t.p) (apart : u.s ≢ t.s) where
  abbrev x : StreamValue
  x = stepped (stream_at proc.streams t.s) i

  here : is_idle (stream_at proc.streams t.s) ≡ false
  here = (there_awake image proc t.s i l).1

  -- what the step of u leaves
  abbrev other : (ProcessorValue × Outcome) × TaggedMemory
  other = row_over_memory image proc u.s w.memory

  kept : stream_at other.0.0.streams t.s ≡ stream_at proc.streams t.s
  kept = kept_stream image proc t.s u.s w.memory (λ e. apart (sym e)) here

  kept_plain : IsPlain image (stream_at other.0.0.streams t.s) i
  kept_plain = subst (λ y. IsPlain image y i) (sym kept) l

  abbrev two : World
  two = put w t.p other

  after_u : after image w u ≡ two
  after_u =
      after_there image w u proc (ap (slice_get w.processors) same ∙ there)
      ∙ ap (λ p. put w p other) same

  there_two : slice_get two.processors t.p ≡ Some other.0.0
  there_two = there_same w.processors t.p proc other.0.0 there

  -- u, then t
  then_t : after image two t ≡ put w t.p ((with_stream other.0.0 t.s x, other.0.1), other.1)
  then_t =
      after_alone image two t other.0.0 i there_two kept_plain
      ∙ ap (λ y. with_stream_of two t.p other.0.0 t.s (stepped y i)) kept
      ∙ ap (λ ps. record { processors = ps; memory = other.1 })
      (set-set w.processors t.p other.0.0 (with_stream other.0.0 t.s x))

  abbrev one : World
  one = with_stream_of w t.p proc t.s x

  -- t, then u
  then_u : after image one u ≡ put w t.p ((with_stream other.0.0 t.s x, other.0.1), other.1)
  then_u =
      after_there image one u (with_stream proc t.s x)
      (ap (slice_get one.processors) same ∙ there_same w.processors t.p proc (with_stream proc t.s x) there)
      ∙ ap (λ p. put one p (row_over_memory image (with_stream proc t.s x) u.s w.memory)) same
      ∙ ap (put one t.p)
      (over_memory_beside proc t.s u.s x apart here (stepped_awake (stream_at proc.streams t.s) i here) image w.memory)
      ∙ ap (λ ps. record { processors = ps; memory = other.1 })
      (set-set w.processors t.p (with_stream proc t.s x) (with_stream other.0.0 t.s x))

  pub swap_beside : after image (after image w t) u ≡ after image (after image w u) t
  swap_beside =
      ap (λ v. after image v u) (after_alone image w t proc i there l)
      ∙ then_u
      ∙ sym then_t
      ∙ sym (ap (λ v. after image v t) after_u)

  pub stays_beside : IsLocalIn image (stream_at proc.streams t.s) → IsLocalStep image (after image w u) t
  stays_beside alone = record {
    processor = other.0.0;
    there = ap (λ (v : World). slice_get v.processors t.p) after_u ∙ there_two;
    alone = subst (IsLocalIn image) (sym kept) alone;
  }

-- Steps t and u are of two processors, and that of t concerns its stream alone.
module _ (image : ImageValue) (w : World) (t u : Step) (proc : ProcessorValue) (i : Insn)
    (there : slice_get w.processors t.p ≡ Some proc) (l : IsPlain image (stream_at proc.streams t.s) i)
    (apart : u.p ≢ t.p) where
  abbrev to : ProcessorValue
  to = with_stream proc t.s (stepped (stream_at proc.streams t.s) i)

  abbrev far_one : World
  far_one = record { processors = set w.processors t.p to; memory = w.memory }

  swap_at : (o : Option ProcessorValue) → slice_get w.processors u.p ≡ o
      → after image (after image w t) u ≡ after image (after image w u) t
  swap_at None none =
      ap (λ v. after image v u) (after_alone image w t proc i there l)
      ∙ after-absent image far_one u (none_other none)
      ∙ sym (after_alone image w t proc i there l)
      ∙ sym (ap (λ v. after image v t) (after-absent image w u none))
    where
      none_other : slice_get w.processors u.p ≡ None → slice_get (set w.processors t.p to) u.p ≡ None
      none_other e = by_place (cases_lt u.p (length w.processors)) where
        by_place : (u.p < length w.processors) ⊎ (length w.processors ≤ u.p)
            → slice_get (set w.processors t.p to) u.p ≡ None
        by_place (inl within) = absurd (some_none (sym (slice_get-get_or w.processors u.p proc within) ∙ e)) where
          some_none : {y : ProcessorValue} → Some y ≡ None → ⊥
          some_none e = cc
        by_place (inr past) =
            slice_get_past (set w.processors t.p to) u.p (omega (arith, past, length-set w.processors t.p to))
  swap_at (Some b) there_u =
      ap (λ v. after image v u) (after_alone image w t proc i there l)
      ∙ after_there image far_one u b (there_other w.processors t.p u.p b to apart there_u)
      ∙ ap (λ ps. record { processors = ps; memory = e.1 })
      (set_comm w.processors t.p u.p to e.0.0 (λ same. apart (sym same)))
      ∙ sym (after_alone image far_two t proc i (there_other w.processors u.p t.p proc e.0.0 (λ same. apart (sym same)) there) l)
      ∙ sym (ap (λ v. after image v t) (after_there image w u b there_u))
    where
      e : (ProcessorValue × Outcome) × TaggedMemory
      e = row_over_memory image b u.s w.memory

      far_two : World
      far_two = put w u.p e

  pub swap_apart : after image (after image w t) u ≡ after image (after image w u) t
  swap_apart = swap_at (slice_get w.processors u.p) refl

  stays_at : (o : Option ProcessorValue) → slice_get w.processors u.p ≡ o
      → slice_get (after image w u).processors t.p ≡ Some proc
  stays_at None none = ap (λ (v : World). slice_get v.processors t.p) (after-absent image w u none) ∙ there
  stays_at (Some b) there_u =
      ap (λ (v : World). slice_get v.processors t.p) (after_there image w u b there_u)
      ∙ there_other w.processors u.p t.p proc (row_over_memory image b u.s w.memory).0.0 (λ same. apart (sym same)) there

  pub stays_apart : IsLocalIn image (stream_at proc.streams t.s) → IsLocalStep image (after image w u) t
  stays_apart alone =
      record { processor = proc; there = stays_at (slice_get w.processors u.p) refl; alone = alone }
