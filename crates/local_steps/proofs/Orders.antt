-- What holds of steps that concern their own stream alone.
use Rattle.std.proofs.Common.{◌≡◌, ◌≢◌, ℕ, ◌⊎◌, inl, inr, true, refl, sym, ap, ◌∙◌, arith}
use Rattle.std.specs.Prelude.{not}
use Rattle.std.proofs.lemmas.Bool.{cases_lt}
use Rattle.insn_word.specs.declared.insn.Insn.{Insn}
use Rattle.image_file.specs.ImageValue.{ImageValue}
use Rattle.stream_core.specs.declared.steps.Outcome.{Outcome}
use Rattle.stream_core.specs.declared.steps.Outcome.TheVariants as outcome
use Rattle.stream_core.specs.declared.steps.Fetch.TheVariants as fetch
use Rattle.processor.specs.Processors.{stream_at}
use Rattle.processor.specs.Row.{next_asking}
use Rattle.processor.specs.World.{World, world_step, after}
use Rattle.processor.specs.declared.steps.Step.{Step}
use Rattle.processor.specs.declared.steps.Next.TheVariants as next
use Rattle.processor.proofs.Begun.{next_begun}
use Rattle.machine.specs.MachineValue.{MachineValue, next_at, next_in}
use Rattle.waiting.specs.Running.{runs_in}
use Rattle.waiting.specs.Stuck.{IsStuck}
use Rattle.waiting.proofs.Needs.{skips, runs-next}
use Rattle.local_steps.specs.LocalSteps.{IsLocalStep}
use Rattle.local_steps.proofs.Alone.{IsPlain, plain_of, begins}
use Rattle.local_steps.proofs.Commuting.{step_there, alone_over_memory, swap_beside, stays_beside, swap_apart, stays_apart}

pub same_or_other : (j k : ℕ) → (j ≡ k) ⊎ (j ≢ k)
same_or_other j k = elim (cases_lt j k) [
  | inl below ↦ inr (λ e. omega arith)
  | inr above ↦ elim (cases_lt k j) [ inl less ↦ inr (λ e. omega arith) | inr most ↦ inl (omega arith) ]
]

pub commutes : (image : ImageValue) (w : World) (t u : Step) → IsLocalStep image w t → u ≢ t
    → after image (after image w t) u ≡ after image (after image w u) t
commutes image w t u l apart = by_processor (same_or_other u.p t.p) where
  found : (i : Insn) × IsPlain image (stream_at l.processor.streams t.s) i
  found = plain_of image (stream_at l.processor.streams t.s) l.alone

  by_stream : u.p ≡ t.p → (u.s ≡ t.s) ⊎ (u.s ≢ t.s) → after image (after image w t) u ≡ after image (after image w u) t
  by_stream same (inl one) = absurd (apart (λ i. record { p = same i; s = one i }))
  by_stream same (inr two) = swap_beside image w t u l.processor found.0 l.there found.1 same two

  by_processor : (u.p ≡ t.p) ⊎ (u.p ≢ t.p) → after image (after image w t) u ≡ after image (after image w u) t
  by_processor (inl same) = by_stream same (same_or_other u.s t.s)
  by_processor (inr far) = swap_apart image w t u l.processor found.0 l.there found.1 far

pub stays : (image : ImageValue) (w : World) (t u : Step) → IsLocalStep image w t → u ≢ t
    → IsLocalStep image (after image w u) t
stays image w t u l apart = by_processor (same_or_other u.p t.p) where
  found : (i : Insn) × IsPlain image (stream_at l.processor.streams t.s) i
  found = plain_of image (stream_at l.processor.streams t.s) l.alone

  by_stream : u.p ≡ t.p → (u.s ≡ t.s) ⊎ (u.s ≢ t.s) → IsLocalStep image (after image w u) t
  by_stream same (inl one) = absurd (apart (λ i. record { p = same i; s = one i }))
  by_stream same (inr two) = stays_beside image w t u l.processor found.0 l.there found.1 same two l.alone

  by_processor : (u.p ≡ t.p) ⊎ (u.p ≢ t.p) → IsLocalStep image (after image w u) t
  by_processor (inl same) = by_stream same (same_or_other u.s t.s)
  by_processor (inr far) = stays_apart image w t u l.processor found.0 l.there found.1 far l.alone

-- it is done
pub is_done : (image : ImageValue) (w : World) (t : Step) → IsLocalStep image w t → (world_step image w t).1 ≡ outcome.Done
is_done image w t l =
    let found = plain_of image (stream_at l.processor.streams t.s) l.alone in
    ap (λ (e : World × Outcome). e.1) (step_there image w t l.processor l.there)
    ∙ ap (λ e. e.0.1) (alone_over_memory image l.processor t.s w.memory found.0 found.1)

pub not_stuck : (image : ImageValue) (w : World) (t : Step) → IsLocalStep image w t → ¬ (IsStuck image w t)
not_stuck image w t l stuck =
    let blocked : (world_step image w t).1 ≡ outcome.Blocked = ap (λ (e : World × Outcome). e.1) stuck.stays in
    let both : outcome.Done ≡ outcome.Blocked = sym (is_done image w t l) ∙ blocked in
    cc

pub runs : (image : ImageValue) (w : World) (t : Step) → IsLocalStep image w t → runs_in w t ≡ true
runs image w t l =
    let m : MachineValue = record { image = image; world = w } in
    let found = plain_of image (stream_at l.processor.streams t.s) l.alone in
    let needs : next_in m t ≡ next.Local =
    ap (λ o. next_at image o t.s) l.there
    ∙ sym (next_begun image l.processor t.s (fetch.Instruction found.0) (begins image l.processor t.s found.0 found.1))
    ∙ ap next_asking found.1.unasked in
    sym (runs-next m t (next_in m t) refl) ∙ ap (λ n. not (skips n)) needs
