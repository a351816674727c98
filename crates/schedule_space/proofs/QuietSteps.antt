-- Quiet steps that can be taken before all others: which they are, and that they stay quiet behind other steps.
use Rattle.std.proofs.Common.{◌≡◌, ◌≢◌, ℕ, ◌⊎◌, inl, inr, Bool, true, false, ◌&&◌, refl, sym, ap, ◌∙◌, subst}
use Rattle.std.proofs.Common.{List, [], ◌∷◌, length, arith, Some, None, slice_get}
use Rattle.insn_word.specs.declared.insn.Insn.{Insn}
use Rattle.image_file.specs.ImageValue.{ImageValue}
use Rattle.stream_core.specs.Streams.{StreamValue}
use Rattle.stream_core.specs.StreamRow.{plan_of, control_at, row_asking, row_from, stream_row}
use Rattle.stream_core.specs.declared.steps.Outcome.{Outcome}
use Rattle.stream_core.specs.declared.steps.Fetch.TheVariants as fetch
use Rattle.stream_core.specs.declared.steps.Plan.TheVariants as plan
use Rattle.stream_core.specs.declared.steps.Control.TheVariants as asks
use Rattle.processor.specs.Processors.{ProcessorValue, stream_at}
use Rattle.processor.specs.Records.{is_running}
use Rattle.processor.specs.Row.{image_fetch, row_over_memory}
use Rattle.processor.specs.World.{World, after, steps, stream_of}
use Rattle.processor.specs.declared.steps.Step.{Step}
use Rattle.machine.specs.MachineValue.{MachineValue, IsMachine}
use Rattle.agreeing_ends.specs.LocalSteps.LocalSteps.{IsLocalStep}
use Rattle.agreeing_ends.specs.LocalSteps.EndingSteps.{IsEndingStep}
use Rattle.agreeing_ends.specs.LocalSteps.FreeSteps.{IsFreeStep}
use Rattle.agreeing_ends.proofs.LocalSteps.Alone.{IsPlain, plain_of, stepped, there_awake}
use Rattle.agreeing_ends.proofs.LocalSteps.Commuting.{put, after_there, kept_stream, there_same}
use Rattle.agreeing_ends.proofs.LocalSteps.Ended.{end_of, there_ending, stays_at}
use Rattle.agreeing_ends.proofs.LocalSteps.Ending.{kept, there_behind, stays_ending_step}
use Rattle.agreeing_ends.proofs.LocalSteps.Orders.{same_or_other, stays}
use Rattle.agreeing_ends.proofs.LocalSteps.Told.{shown}
use Rattle.agreeing_ends.specs.Unseen.{AreOthers}
use Rattle.schedule_space.specs.Quiet.{is_looked_at, is_seen, stream_of_step, IsQuietStep}
use Rattle.schedule_space.proofs.FreeSteps.{named_there, stepped_local, stepped_ending}

-- What is seen of a stream.

not_both : (b : Bool) → (b && false) ≡ false
not_both true = refl
not_both false = refl

-- it is not seen at a place that is not looked at
pub unseen : (looked_at : List Bool) (s : StreamValue) → is_looked_at looked_at s.ssw.pc ≡ false → is_seen looked_at s ≡ false
unseen looked_at s none = ap (λ b. is_running s && b) none ∙ not_both (is_running s)

-- where no place is looked at, each step is quiet
pub all_quiet : (looked_at : List Bool) (image : ImageValue) (w : World) (t : Step) → length looked_at ≡ 0
    → IsQuietStep looked_at image w t
all_quiet [] image w t none = record {
  before = not_both (is_running (stream_of_step w t));
  behind = not_both (is_running (stream_of_step (after image w t) t));
}
all_quiet (b ∷ bs) image w t none = absurd (omega (arith, none))

-- the stream that its own instruction leaves
pub row_unseen : (looked_at : List Bool) (image : ImageValue) (limit : ℕ) (s new : StreamValue) (o : Outcome)
    → (new, o) ≡ stream_row image.profile image.program limit s 0 None → is_looked_at looked_at new.ssw.pc ≡ false
    → is_seen looked_at (stream_row image.profile image.program limit s 0 None).0 ≡ false
row_unseen looked_at image limit s new o is none =
    ap (λ (e : StreamValue × Outcome). is_seen looked_at e.0) (sym is) ∙ unseen looked_at new none

row_stepped : (image : ImageValue) (limit : ℕ) (s : StreamValue) (i : Insn) → IsPlain image s i
    → (stream_row image.profile image.program limit s 0 None).0 ≡ stepped s i
unfolding stream_row
row_stepped image limit s i l =
    ap (λ f. (row_from limit s 0 None f).0) l.found ∙ ap (λ q. (row_asking limit s i 0 None q).0) l.unasked

some_same : {x y : StreamValue} → Some x ≡ Some y → x ≡ y
some_same e = cc

-- A machine shows the stream of such a step.

module _ (size : ℕ) (m : MachineValue) (t : Step) (s : StreamValue) (machine : IsMachine size m)
    (seen : stream_of size m.world t.p t.s ≡ Some s) where
  local_shown : (l : IsLocalStep m.image m.world t) → s ≡ stream_at l.processor.streams t.s
  local_shown l =
      let found = plain_of m.image (stream_at l.processor.streams t.s) l.alone in
      some_same (sym seen ∙ shown size m t l.processor machine l.there
      (there_awake m.image l.processor t.s found.0 found.1).0)

  ending_shown : (l : IsEndingStep m.image m.world t) → s ≡ stream_at l.processor.streams t.s
  ending_shown l =
      some_same (sym seen ∙ shown size m t l.processor machine l.there
      (there_ending m.image l.processor t.s l.ending))

  -- it asks nothing of the memory
  pub free_local : IsFreeStep m.image m.world t → plan_of m.image.profile m.image.program s ≡ plan.Local
  free_local (inl l) = ap (plan_of m.image.profile m.image.program) (local_shown l) ∙ l.alone.unasked
  free_local (inr l) = ap (plan_of m.image.profile m.image.program) (ending_shown l) ∙ l.ending.unasked

  -- where it is at no place that is looked at, before the step and after its instruction
  quiet_shown : (looked_at : List Bool) → IsFreeStep m.image m.world t → is_looked_at looked_at s.ssw.pc ≡ false
      → (control_at m.image.profile m.image.program s ≡ asks.Plain → (limit : ℕ)
      → is_seen looked_at (stream_row m.image.profile m.image.program limit s 0 None).0 ≡ false)
      → IsQuietStep looked_at m.image m.world t
  quiet_shown looked_at (inl l) none left =
      let here = stream_at l.processor.streams t.s in
      let is : s ≡ here = local_shown l in
      let found = plain_of m.image here l.alone in
      let named : stream_of_step m.world t ≡ s = named_there m.world t l.processor l.there ∙ sym is in
      record {
        before = ap (is_seen looked_at) named ∙ unseen looked_at s none;
        behind =
            ap (is_seen looked_at)
            (stepped_local m.image m.world t l found.0 found.1
            ∙ sym (row_stepped m.image 0 here found.0 found.1)
            ∙ ap (λ x. (stream_row m.image.profile m.image.program 0 x 0 None).0) (sym is))
            ∙ left (ap (control_at m.image.profile m.image.program) is ∙ l.alone.plain) 0;
      }
  quiet_shown looked_at (inr l) none left =
      let named : stream_of_step m.world t ≡ s =
      named_there m.world t l.processor l.there ∙ sym (ending_shown l) in
      record {
        before = ap (is_seen looked_at) named ∙ unseen looked_at s none;
        behind = ap (is_seen looked_at) (stepped_ending m.image m.world t l);
      }

  pub quiet_by : (looked_at : List Bool) (image : ImageValue) → image ≡ m.image → IsFreeStep m.image m.world t
      → is_looked_at looked_at s.ssw.pc ≡ false
      → (control_at image.profile image.program s ≡ asks.Plain → (limit : ℕ)
      → is_seen looked_at (stream_row image.profile image.program limit s 0 None).0 ≡ false)
      → IsQuietStep looked_at m.image m.world t
  quiet_by looked_at image same free none left =
      quiet_shown looked_at free none
      (subst
      (λ (i : ImageValue). control_at i.profile i.program s ≡ asks.Plain → (limit : ℕ)
      → is_seen looked_at (stream_row i.profile i.program limit s 0 None).0 ≡ false)
      same left)

-- The stream of such a step is as it was behind a step of another stream.

far_named : (image : ImageValue) (w : World) (t u : Step) (proc : ProcessorValue) → slice_get w.processors t.p ≡ Some proc
    → u.p ≢ t.p → stream_of_step (after image w u) t ≡ stream_of_step w t
far_named image w t u proc there far =
    named_there (after image w u) t proc (stays_at image w u t.p proc there far (slice_get w.processors u.p) refl)
    ∙ sym (named_there w t proc there)

local_named : (image : ImageValue) (w : World) (t u : Step) → IsLocalStep image w t → u ≢ t
    → stream_of_step (after image w u) t ≡ stream_of_step w t
local_named image w t u l apart = by_processor (same_or_other u.p t.p) where
  by_stream : u.p ≡ t.p → (u.s ≡ t.s) ⊎ (u.s ≢ t.s) → stream_of_step (after image w u) t ≡ stream_of_step w t
  by_stream same (inl one) = absurd (apart (λ i. record { p = same i; s = one i }))
  by_stream same (inr two) =
      let found = plain_of image (stream_at l.processor.streams t.s) l.alone in
      let other = row_over_memory image l.processor u.s w.memory in
      let behind : slice_get (after image w u).processors t.p ≡ Some other.0.0 =
      ap (λ (x : World). slice_get x.processors t.p)
      (after_there image w u l.processor (ap (slice_get w.processors) same ∙ l.there)
      ∙ ap (λ p. put w p other) same)
      ∙ there_same w.processors t.p l.processor other.0.0 l.there in
      named_there (after image w u) t other.0.0 behind
      ∙ kept_stream image l.processor t.s u.s w.memory (λ e. two (sym e))
      (there_awake image l.processor t.s found.0 found.1).1
      ∙ sym (named_there w t l.processor l.there)

  by_processor : (u.p ≡ t.p) ⊎ (u.p ≢ t.p) → stream_of_step (after image w u) t ≡ stream_of_step w t
  by_processor (inl same) = by_stream same (same_or_other u.s t.s)
  by_processor (inr far) = far_named image w t u l.processor l.there far

ending_named : (image : ImageValue) (w : World) (t u : Step) → IsEndingStep image w t → u ≢ t
    → stream_of_step (after image w u) t ≡ stream_of_step w t
ending_named image w t u l apart = by_processor (same_or_other u.p t.p) where
  by_stream : u.p ≡ t.p → (u.s ≡ t.s) ⊎ (u.s ≢ t.s) → stream_of_step (after image w u) t ≡ stream_of_step w t
  by_stream same (inl one) = absurd (apart (λ i. record { p = same i; s = one i }))
  by_stream same (inr two) =
      let found = end_of image (stream_at l.processor.streams t.s) l.ending in
      let other = row_over_memory image l.processor u.s w.memory in
      named_there (after image w u) t other.0.0
      (there_behind image w t u l.processor found.0 l.there found.1 l.others same two)
      ∙ kept image w t u l.processor found.0 l.there found.1 l.others same two
      ∙ sym (named_there w t l.processor l.there)

  by_processor : (u.p ≡ t.p) ⊎ (u.p ≢ t.p) → stream_of_step (after image w u) t ≡ stream_of_step w t
  by_processor (inl same) = by_stream same (same_or_other u.s t.s)
  by_processor (inr far) = far_named image w t u l.processor l.there far

-- Behind the step it is as it was, too.

same_insn : {i j : Insn} → fetch.Instruction i ≡ fetch.Instruction j → i ≡ j
same_insn e = cc

-- the same stream does the same
same_stepped : (image : ImageValue) (v w : World) (t : Step) → IsLocalStep image v t → IsLocalStep image w t
    → stream_of_step v t ≡ stream_of_step w t
    → stream_of_step (after image v t) t ≡ stream_of_step (after image w t) t
same_stepped image v w t a b same =
    let x = stream_at a.processor.streams t.s in
    let y = stream_at b.processor.streams t.s in
    let one = plain_of image x a.alone in
    let two = plain_of image y b.alone in
    let is : x ≡ y = sym (named_there v t a.processor a.there) ∙ same ∙ named_there w t b.processor b.there in
    let found : one.0 ≡ two.0 = same_insn (sym one.1.found ∙ ap (image_fetch image) is ∙ two.1.found) in
    stepped_local image v t a one.0 one.1
    ∙ (λ i. stepped (is i) (found i))
    ∙ sym (stepped_local image w t b two.0 two.1)

module _ (looked_at : List Bool) (image : ImageValue) where
  local_behind : (w : World) (t u : Step) → IsLocalStep image w t → u ≢ t → IsQuietStep looked_at image w t
      → IsQuietStep looked_at image (after image w u) t
  local_behind w t u l apart quiet =
      let same = local_named image w t u l apart in
      let left = same_stepped image (after image w u) w t (stays image w t u l apart) l same in
      record {
        before = ap (is_seen looked_at) same ∙ quiet.before;
        behind = ap (is_seen looked_at) left ∙ quiet.behind;
      }

  ending_behind : (w : World) (t u : Step) → IsEndingStep image w t → u ≢ t → IsQuietStep looked_at image w t
      → IsQuietStep looked_at image (after image w u) t
  ending_behind w t u l apart quiet = record {
    before = ap (is_seen looked_at) (ending_named image w t u l apart) ∙ quiet.before;
    behind = ap (is_seen looked_at) (stepped_ending image (after image w u) t (stays_ending_step image w t u l apart));
  }

  -- it can be taken before all others, and is quiet
  pub record IsFreeQuiet (w : World) (t : Step) : Type 0 where
    pub free : IsFreeStep image w t
    pub quiet : IsQuietStep looked_at image w t

  behind_one : (w : World) (t u : Step) → IsFreeStep image w t → u ≢ t → IsQuietStep looked_at image w t
      → IsFreeQuiet (after image w u) t
  behind_one w t u (inl l) apart quiet =
      record { free = inl (stays image w t u l apart); quiet = local_behind w t u l apart quiet }
  behind_one w t u (inr l) apart quiet =
      record { free = inr (stays_ending_step image w t u l apart); quiet = ending_behind w t u l apart quiet }

  -- so it is behind other steps
  pub quiet_behind : (w : World) (t : Step) (us : List Step) → IsFreeStep image w t → IsQuietStep looked_at image w t
      → AreOthers t us → IsFreeQuiet (steps image w us) t
  quiet_behind w t [] free quiet others = record { free = free; quiet = quiet }
  quiet_behind w t (u ∷ us) free quiet others =
      let one = behind_one w t u free others.0 quiet in
      quiet_behind (after image w u) t us one.free one.quiet others.1
