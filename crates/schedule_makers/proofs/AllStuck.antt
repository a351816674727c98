-- A standstill by the list of the streams that run.
use Rattle.std.proofs.Common.{◌≡◌, Bool, true, false, refl, sym, subst, get_or, List}
use Rattle.std.specs.Prelude.{IsTrue, Contains, All, not, ◌↔◌}
use Rattle.std.proofs.lemmas.List.Elements.{All-contains, Contains-get_or}
use Rattle.image_file.specs.ImageValue.{ImageValue}
use Rattle.processor.specs.World.{World}
use Rattle.processor.specs.declared.steps.Step.{Step}
use Rattle.waiting.specs.Running.{runs_in, running_steps}
use Rattle.waiting.specs.Stuck.{IsStuck, SomeRuns, IsStandstill}
use Rattle.waiting.proofs.Lists.{all_running}

-- a stream of the list runs
pub listed_runs : (w : World) (running : List Step) (t : Step) → running ≡ running_steps w → Contains running t
    → IsTrue (runs_in w t)
listed_runs w running t is has =
    let there : Contains (running_steps w) t = subst (λ ts. Contains ts t) is has in (all_running w t).0 there

runs_listed : (w : World) (running : List Step) (t : Step) → running ≡ running_steps w → IsTrue (runs_in w t)
    → Contains running t
runs_listed w running t is runs = subst (λ ts. Contains ts t) (sym is) ((all_running w t).1 runs)

still_listed : (image : ImageValue) (w : World) (running : List Step) → running ≡ running_steps w → SomeRuns w
    → All (IsStuck image w) running → IsStandstill image w
still_listed image w running is some all = record {
  some = some;
  each = λ t runs. All-contains (IsStuck image w) running t all (runs_listed w running t is runs);
}

listed_still : (image : ImageValue) (w : World) (running : List Step) → running ≡ running_steps w
    → IsStandstill image w → All (IsStuck image w) running
listed_still image w running is still k d below =
    still.each (get_or running k d) (listed_runs w running (get_or running k d) is (Contains-get_or running k d below))

-- What the code has found.

pub going_if : (image : ImageValue) (w : World) (running : List Step) (b : Bool) → running ≡ running_steps w
    → (IsTrue b ↔ All (IsStuck image w) running) → IsTrue (not b) → ¬ IsStandstill image w
going_if image w running true is found e still = absurd (let h : ⊥ = cc in h)
going_if image w running false is found e still =
    let b : false ≡ true = found.1 (listed_still image w running is still) in
    let h : ⊥ = cc in h

pub still_if : (image : ImageValue) (w : World) (running : List Step) (b : Bool) → running ≡ running_steps w
    → SomeRuns w → (IsTrue b ↔ All (IsStuck image w) running) → not b ≡ false → IsStandstill image w
still_if image w running true is some found e = still_listed image w running is some (found.0 refl)
still_if image w running false is some found e = absurd (let h : ⊥ = cc in h)
