-- What is added for a stream, and what is known when all were looked at.
use Rattle.std.proofs.Common.{◌≡◌, ℕ, ◌+◌, ◌<◌, ◌≤◌, Bool, true, false, refl, sym, ap, ◌∙◌, subst, arith}
use Rattle.std.proofs.Common.{List, [], ◌++◌, length, drop, slice_get, append_assoc, append-nil}
use Rattle.std.proofs.lemmas.List.{drop_all}
use Rattle.machine.specs.Processor.World.{World}
use Rattle.machine.specs.ProcessorTypes.Step.{Step}
use Rattle.machine.specs.MachineValue.{MachineValue, IsMachine}
use Rattle.waiting.specs.Running.{streams_at, runs_in, running_from, running_of, running_steps, AreRunning}
use Rattle.waiting.proofs.Lists.{step_if, running-drop, running_of-drop, all_running}
use Rattle.std.specs.Prelude.{IsTrue}
use Rattle.std.proofs.Common.{inl, inr}
use Rattle.std.proofs.lemmas.Bool.{cases_lt}
use Rattle.waiting.specs.Stuck.{IsStuck, SomeRuns, AllStuck}
use Rattle.waiting.proofs.Standing.{few_streams, runs-slim, runs-entries}

-- one stream more: what is added is its step, if it runs
pub one_more_stream : (w : World) (p n : ℕ) (all done more : List Step) (b : Bool)
    → done ++ running_from p n (drop n (streams_at (slice_get w.processors p))) ≡ all
    → b ≡ runs_in w (record { p = p; s = n }) → more ≡ done ++ step_if b p n
    → more ++ running_from p (n + 1) (drop (n + 1) (streams_at (slice_get w.processors p))) ≡ all
one_more_stream w p n all done more b so_far runs is =
    let ss = streams_at (slice_get w.processors p) in
    let rest = running_from p (n + 1) (drop (n + 1) ss) in
    ap (λ x. x ++ rest) is ∙ append_assoc done (step_if b p n) rest
    ∙ ap (λ x. done ++ (step_if x p n ++ rest)) runs
    ∙ sym (ap (λ x. done ++ x) (running-drop p n ss)) ∙ so_far

-- no stream is left
pub all_streams : (size : ℕ) (m : MachineValue) (p n : ℕ) (all done : List Step) → IsMachine size m
    → done ++ running_from p n (drop n (streams_at (slice_get m.world.processors p))) ≡ all → m.image.slim ≤ n
    → done ≡ all
all_streams size m p n all done machine so_far past =
    let ss = streams_at (slice_get m.world.processors p) in
    let few = few_streams size m p machine in
    let none : drop n ss ≡ [] = drop_all n ss (omega arith) in
    sym (append-nil done) ∙ sym (ap (λ x. done ++ running_from p n x) none) ∙ so_far

-- one processor more
pub one_more_processor : (w : World) (p : ℕ) (all done more : List Step)
    → done ++ running_of p (drop p w.processors) ≡ all
    → more ≡ done ++ running_from p 0 (streams_at (slice_get w.processors p))
    → more ++ running_of (p + 1) (drop (p + 1) w.processors) ≡ all
one_more_processor w p all done more so_far is =
    let here = running_from p 0 (streams_at (slice_get w.processors p)) in
    let rest = running_of (p + 1) (drop (p + 1) w.processors) in
    ap (λ x. x ++ rest) is ∙ append_assoc done here rest
    ∙ sym (ap (λ x. done ++ x) (running_of-drop p w.processors)) ∙ so_far

-- no processor is left
pub all_processors : (size : ℕ) (m : MachineValue) (p : ℕ) (done : List Step) → IsMachine size m
    → done ++ running_of p (drop p m.world.processors) ≡ running_steps m.world → length m.image.entries ≤ p
    → done ≡ running_steps m.world
all_processors size m p done machine so_far past =
    let none : drop p m.world.processors ≡ [] = drop_all p m.world.processors (omega (arith, machine.one_each)) in
    sym (append-nil done) ∙ sym (ap (λ x. done ++ running_of p x) none) ∙ so_far

pub running_all : (w : World) (done : List Step) → done ≡ running_steps w → AreRunning w done
running_all w done same = subst (AreRunning w) (sym same) (all_running w)

-- Whether some stream runs, and whether each that runs is stuck.

not_true : (b : Bool) → (b ≡ true → ⊥) → b ≡ false
not_true true never = absurd (never refl)
not_true false _ = refl

-- what is shown of each stream of the processors below p, and of processor p, is of those below p + 1
pub below_next : (P : Step → Type 0) (p : ℕ) → ((t : Step) → t.p < p → P t)
    → ((n : ℕ) → P (record { p = p; s = n })) → (t : Step) → t.p < p + 1 → P t
below_next P p below here t within =
    elim (cases_lt t.p p) [
      | inl less ↦ below t less
      | inr most ↦
          let same : p ≡ t.p = omega arith in
          subst (λ x. P (record { p = x; s = t.s })) same (here t.s)
    ]

-- no stream of a processor runs, where none below the image's slim does
pub none_runs : (size : ℕ) (m : MachineValue) (p n : ℕ) → IsMachine size m → m.image.slim ≤ n
    → ((k : ℕ) → k < n → runs_in m.world (record { p = p; s = k }) ≡ false)
    → (k : ℕ) → runs_in m.world (record { p = p; s = k }) ≡ false
none_runs size m p n machine past none k =
    not_true _ (λ runs.
    let within = runs-slim size m (record { p = p; s = k }) machine runs in
    let rests = none k (omega arith) in
    let e : ⊥ = cc in
    e)

-- no stream runs at all
pub none_run : (size : ℕ) (m : MachineValue) (p : ℕ) → IsMachine size m → length m.image.entries ≤ p
    → ((t : Step) → t.p < p → runs_in m.world t ≡ false) → SomeRuns m.world → ⊥
none_run size m p machine past none some =
    let within = runs-entries size m some.0 machine some.1 in
    let rests = none some.0 (omega arith) in
    let e : ⊥ = cc in
    e

-- each stream of a processor is stuck, if it runs
pub each_stuck : (size : ℕ) (m : MachineValue) (p n : ℕ) → IsMachine size m → m.image.slim ≤ n
    → ((k : ℕ) → k < n → IsTrue (runs_in m.world (record { p = p; s = k }))
    → IsStuck m.image m.world (record { p = p; s = k }))
    → (k : ℕ) → IsTrue (runs_in m.world (record { p = p; s = k })) → IsStuck m.image m.world (record { p = p; s = k })
each_stuck size m p n machine past each k runs =
    let within = runs-slim size m (record { p = p; s = k }) machine runs in
    each k (omega arith) runs

-- each stream is
pub all_are_stuck : (size : ℕ) (m : MachineValue) (p : ℕ) → IsMachine size m → length m.image.entries ≤ p
    → ((t : Step) → t.p < p → IsTrue (runs_in m.world t) → IsStuck m.image m.world t) → AllStuck m.image m.world
all_are_stuck size m p machine past each t runs =
    let within = runs-entries size m t machine runs in
    each t (omega arith) runs
