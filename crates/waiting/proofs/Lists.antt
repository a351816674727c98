-- The list of the streams that run, and that it has all of them.
use Rattle.std.proofs.Common.{◌≡◌, ℕ, zero, suc, ◌+◌, Bool, true, false, refl, sym, ap, ◌∙◌, subst, arith}
use Rattle.std.proofs.Common.{List, [], ◌∷◌, ◌++◌, drop, slice_get, inl, inr}
use Rattle.std.proofs.Common.{if◌then◌else◌}
use Rattle.std.proofs.Math.Seq.{drop-nil}
use Rattle.std.specs.Prelude.{Contains}
use Rattle.std.proofs.lemmas.List.Elements.{Contains-append_left, Contains-append_right, Contains-append_cases}
use Rattle.std.proofs.lemmas.List.Elements.{Contains-push, Contains-push_cases}
use Rattle.stream_core.specs.Streams.{StreamValue}
use Rattle.machine.specs.Processor.Processors.{ProcessorValue}
use Rattle.machine.specs.Processor.Records.{is_running}
use Rattle.machine.specs.Processor.World.{World}
use Rattle.machine.specs.ProcessorTypes.Step.{Step}
use Rattle.waiting.specs.Running.{streams_at, runs_at, running_from, running_of, running_steps, AreRunning}

-- a step, if a test holds
abbrev pub step_if : Bool → ℕ → ℕ → List Step
step_if b p n = if b then record { p = p; s = n } ∷ [] else []

-- One stream after another.

running-drop_from : (p n k : ℕ) (ss : List StreamValue)
    → running_from p n (drop k ss)
    ≡ step_if (runs_at (slice_get ss k)) p n ++ running_from p (n + 1) (drop (k + 1) ss)
running-drop_from p n k [] =
    ap (running_from p n) (drop-nil k) ∙ sym (ap (running_from p (n + 1)) (drop-nil (k + 1)))
running-drop_from p n zero (s ∷ ss) = refl
running-drop_from p n (suc k) (s ∷ ss) =
    let next : suc (k + 1) ≡ suc k + 1 = omega arith in
    running-drop_from p n k ss
    ∙ ap (λ j. step_if (runs_at (slice_get ss k)) p n ++ running_from p (n + 1) (drop j (s ∷ ss))) next

-- those from stream n on begin with stream n, if it runs
pub running-drop : (p n : ℕ) (ss : List StreamValue)
    → running_from p n (drop n ss) ≡ step_if (runs_at (slice_get ss n)) p n ++ running_from p (n + 1) (drop (n + 1) ss)
running-drop p n ss = running-drop_from p n n ss

running_of-drop_from : (p k : ℕ) (procs : List ProcessorValue)
    → running_of p (drop k procs)
    ≡ running_from p 0 (streams_at (slice_get procs k)) ++ running_of (p + 1) (drop (k + 1) procs)
running_of-drop_from p k [] = ap (running_of p) (drop-nil k) ∙ sym (ap (running_of (p + 1)) (drop-nil (k + 1)))
running_of-drop_from p zero (proc ∷ procs) = refl
running_of-drop_from p (suc k) (proc ∷ procs) =
    let next : suc (k + 1) ≡ suc k + 1 = omega arith in
    running_of-drop_from p k procs
    ∙ ap (λ j. running_from p 0 (streams_at (slice_get procs k)) ++ running_of (p + 1) (drop j (proc ∷ procs))) next

-- those from processor p on begin with those of processor p
pub running_of-drop : (p : ℕ) (procs : List ProcessorValue)
    → running_of p (drop p procs)
    ≡ running_from p 0 (streams_at (slice_get procs p)) ++ running_of (p + 1) (drop (p + 1) procs)
running_of-drop p procs = running_of-drop_from p p procs

-- All of them, and no other.

none_in : (t : Step) → Contains [] t → ⊥
none_in t has = omega (arith, has.1)

step_in : (b : Bool) (p n : ℕ) (t : Step) → Contains (step_if b p n) t → (b ≡ true) × (t.p ≡ p) × (t.s ≡ n)
step_in true p n t has = elim (Contains-push_cases [] (record { p = p; s = n }) t has) [
  | inl none ↦ absurd (none_in t none)
  | inr same ↦ (refl, ap (λ (x : Step). x.p) (sym same), ap (λ (x : Step). x.s) (sym same))
]
step_in false p n t has = absurd (none_in t has)

in_step : (b : Bool) (p n : ℕ) → b ≡ true → Contains (step_if b p n) (record { p = p; s = n })
in_step true p n e = Contains-push [] (record { p = p; s = n })
in_step false p n e = cc

-- a step of a list of running streams that are numbered from n on
record RunsFrom (p n : ℕ) (ss : List StreamValue) (t : Step) : Type 0 where
  place : ℕ
  of_processor : t.p ≡ p
  at : t.s ≡ n + place
  runs : runs_at (slice_get ss place) ≡ true

runs_from : (p n : ℕ) (ss : List StreamValue) (t : Step) → Contains (running_from p n ss) t → RunsFrom p n ss t
runs_from p n [] t has = absurd (none_in t has)
runs_from p n (s ∷ ss) t has =
    elim (Contains-append_cases (step_if (is_running s) p n) (running_from p (n + 1) ss) t has) [
      | inl here ↦
          let found = step_in (is_running s) p n t here in
          record { place = 0; of_processor = found.1; at = omega (arith, found.2); runs = found.0 }
      | inr later ↦
          let found = runs_from p (n + 1) ss t later in
          record {
            place = suc found.place;
            of_processor = found.of_processor;
            at = omega (arith, found.at);
            runs = found.runs;
          }
    ]

from_runs : (p n k : ℕ) (ss : List StreamValue) → runs_at (slice_get ss k) ≡ true
    → Contains (running_from p n ss) (record { p = p; s = n + k })
from_runs p n k [] runs = let e : ⊥ = cc in absurd e
from_runs p n zero (s ∷ ss) runs =
    let has = in_step (is_running s) p n runs in
    let there = Contains-append_left (step_if (is_running s) p n) (running_from p (n + 1) ss) (record { p = p; s = n })
    has in
    let same : n ≡ n + 0 = omega arith in
    subst (λ j. Contains (running_from p n (s ∷ ss)) (record { p = p; s = j })) same there
from_runs p n (suc k) (s ∷ ss) runs =
    let has = from_runs p (n + 1) k ss runs in
    let same : n + 1 + k ≡ n + suc k = omega arith in
    Contains-append_right (step_if (is_running s) p n) (running_from p (n + 1) ss) (record { p = p; s = n + suc k })
    (subst (λ j. Contains (running_from p (n + 1) ss) (record { p = p; s = j })) same has)

record RunsOf (p : ℕ) (procs : List ProcessorValue) (t : Step) : Type 0 where
  place : ℕ
  at : t.p ≡ p + place
  runs : runs_at (slice_get (streams_at (slice_get procs place)) t.s) ≡ true

runs_of : (p : ℕ) (procs : List ProcessorValue) (t : Step) → Contains (running_of p procs) t → RunsOf p procs t
runs_of p [] t has = absurd (none_in t has)
runs_of p (proc ∷ procs) t has =
    elim (Contains-append_cases (running_from p 0 proc.streams) (running_of (p + 1) procs) t has) [
      | inl here ↦
          let found = runs_from p 0 proc.streams t here in
          let same : found.place ≡ t.s = omega (arith, found.at) in
          record {
            place = 0;
            at = omega (arith, found.of_processor);
            runs = sym (ap (λ n. runs_at (slice_get proc.streams n)) same) ∙ found.runs;
          }
      | inr later ↦
          let found = runs_of (p + 1) procs t later in
          record { place = suc found.place; at = omega (arith, found.at); runs = found.runs }
    ]

of_runs : (p k s : ℕ) (procs : List ProcessorValue) → runs_at (slice_get (streams_at (slice_get procs k)) s) ≡ true
    → Contains (running_of p procs) (record { p = p + k; s = s })
of_runs p k s [] runs = let e : ⊥ = cc in absurd e
of_runs p zero s (proc ∷ procs) runs =
    let has = from_runs p 0 s proc.streams runs in
    let there = Contains-append_left (running_from p 0 proc.streams) (running_of (p + 1) procs)
    (record { p = p; s = 0 + s }) has in
    let first : p ≡ p + 0 = omega arith in
    let second : 0 + s ≡ s = omega arith in
    subst (λ j. Contains (running_of p (proc ∷ procs)) (record { p = j; s = s })) first
    (subst (λ j. Contains (running_of p (proc ∷ procs)) (record { p = p; s = j })) second there)
of_runs p (suc k) s (proc ∷ procs) runs =
    let has = of_runs (p + 1) k s procs runs in
    let same : p + 1 + k ≡ p + suc k = omega arith in
    Contains-append_right (running_from p 0 proc.streams) (running_of (p + 1) procs) (record { p = p + suc k; s = s })
    (subst (λ j. Contains (running_of (p + 1) procs) (record { p = j; s = s })) same has)

-- the list has the steps of all streams that run, and no other
pub all_running : (w : World) → AreRunning w (running_steps w)
all_running w t = (
  λ has.
      let found = runs_of 0 w.processors t has in
      let same : found.place ≡ t.p = omega (arith, found.at) in
      sym (ap (λ k. runs_at (slice_get (streams_at (slice_get w.processors k)) t.s)) same) ∙ found.runs,
  λ runs.
      let has = of_runs 0 t.p t.s w.processors runs in
      let same : 0 + t.p ≡ t.p = omega arith in
      subst (λ j. Contains (running_steps w) (record { p = j; s = t.s })) same has,
)
