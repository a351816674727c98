-- What a step comes to.
use Rattle.std.proofs.Common.{◌≡◌, ℕ, List, Bool, true, false, sym, ap, ◌∙◌, subst}
use Rattle.std.specs.Prelude.{IsTrue}
use Rattle.stream_core.specs.declared.steps.Outcome.{Outcome}
use Rattle.processor.specs.World.{World, world_step}
use Rattle.processor.specs.declared.steps.Step.{Step}
use Rattle.machine.specs.MachineValue.{MachineValue, IsMachine}
use Rattle.waiting.specs.Running.{runs_in, running_steps}
use Rattle.waiting.specs.Stuck.{SomeRuns, IsStandstill}
use Rattle.schedule_makers.specs.Advancing.{HasGone, seen_of, is_in_vain, is_same_run}
use Rattle.schedule_makers.specs.declared.looking.Seen.{Seen}
use Rattle.schedule_makers.proofs.Vain.{vain_same, not_still}
use Rattle.schedule_makers.proofs.SameRun.{same_run}

-- A step from one machine to another, whose stream was seen before and after it.
pub record IsSeenStep (size : ℕ) (old new : MachineValue) (t : Step) (o : Outcome) : Type 0 where
  pub machine : IsMachine size old
  pub runs : IsTrue (runs_in old.world t)
  pub world : (new.world, o) ≡ world_step old.image old.world t
  pub image : new.image ≡ old.image

abbrev pub vain_seen : ℕ → MachineValue → MachineValue → Step → Outcome → Bool
vain_seen size old new t o = is_in_vain o (seen_of size old.world t).retries (seen_of size new.world t).retries

-- in vain the machine is as it was
pub as_before : (size : ℕ) (old new : MachineValue) (t : Step) (o : Outcome) → IsSeenStep size old new t o
    → vain_seen size old new t o ≡ true → new ≡ old
as_before size old new t o step vain =
    let world = vain_same size old t new.world o step.machine step.runs step.world vain in
    λ i. record { image = step.image i; world = world i }

-- a step in vain, where somebody can go on
pub gone_vain : (size : ℕ) (old new : MachineValue) (t : Step) (o : Outcome) → IsSeenStep size old new t o
    → vain_seen size old new t o ≡ true → (¬ IsStandstill new.image new.world)
    → HasGone old new t (record { is_able = true; same_run = true })
gone_vain size old new t o step vain able =
    let same = as_before size old new t o step vain in
    record {
      image = step.image;
      world = ap (λ (x : World × Outcome). x.0) step.world;
      going = subst (λ (m : MachineValue). ¬ IsStandstill m.image m.world) same able;
      able = λ known. able;
      same_run = λ known. ap (λ (m : MachineValue). running_steps m.world) same;
    }

-- any other step
pub gone_on : (size : ℕ) (old new : MachineValue) (t : Step) (o : Outcome) (same : Bool) → IsSeenStep size old new t o
    → vain_seen size old new t o ≡ false
    → same ≡ is_same_run (seen_of size old.world t) (seen_of size new.world t)
    → HasGone old new t (record { is_able = false; same_run = same })
gone_on size old new t o same step goes is = record {
  image = step.image;
  world = ap (λ (x : World × Outcome). x.0) step.world;
  going = not_still size old t new.world o step.runs step.world goes;
  able = λ known. absurd (let e : ⊥ = cc in e);
  same_run = λ known. same_run size old t new.world o step.machine step.runs step.world (sym is ∙ known);
}

-- What the code has found.

pub told_vain : (size : ℕ) (old new : MachineValue) (t : Step) (o : Outcome) (before after : Seen) (r : Bool)
    → before ≡ seen_of size old.world t → after ≡ seen_of size new.world t
    → r ≡ is_in_vain o before.retries after.retries → r ≡ vain_seen size old new t o
told_vain size old new t o before after r was is e =
    e ∙ (λ i. is_in_vain o (was i).retries (is i).retries)

pub told_same : (size : ℕ) (old new : MachineValue) (t : Step) (before after : Seen) (r : Bool)
    → before ≡ seen_of size old.world t → after ≡ seen_of size new.world t → r ≡ is_same_run before after
    → r ≡ is_same_run (seen_of size old.world t) (seen_of size new.world t)
told_same size old new t before after r was is e = e ∙ (λ i. is_same_run (was i) (is i))

pub able_after : (size : ℕ) (old new : MachineValue) (t : Step) (o : Outcome) (able : Bool)
    → IsSeenStep size old new t o → vain_seen size old new t o ≡ true
    → (IsTrue able → ¬ IsStandstill old.image old.world) → IsTrue able → ¬ IsStandstill new.image new.world
able_after size old new t o able step vain was known =
    subst (λ (m : MachineValue). ¬ IsStandstill m.image m.world) (sym (as_before size old new t o step vain)) (was known)

pub none_went : (size : ℕ) (old new : MachineValue) (t : Step) (o : Outcome) → IsSeenStep size old new t o
    → vain_seen size old new t o ≡ true → IsStandstill new.image new.world
    → IsStandstill old.image old.world × (new ≡ old)
none_went size old new t o step vain still =
    let same = as_before size old new t o step vain in
    (subst (λ (m : MachineValue). IsStandstill m.image m.world) same still, same)

pub listed_after : (size : ℕ) (old new : MachineValue) (t : Step) (o : Outcome) (running : List Step)
    → IsSeenStep size old new t o → vain_seen size old new t o ≡ true → running ≡ running_steps old.world
    → running ≡ running_steps new.world
listed_after size old new t o running step vain is =
    is ∙ sym (ap (λ (m : MachineValue). running_steps m.world) (as_before size old new t o step vain))

pub some_after : (size : ℕ) (old new : MachineValue) (t : Step) (o : Outcome) → IsSeenStep size old new t o
    → vain_seen size old new t o ≡ true → SomeRuns new.world
some_after size old new t o step vain =
    subst (λ (m : MachineValue). SomeRuns m.world) (sym (as_before size old new t o step vain)) (t, step.runs)
