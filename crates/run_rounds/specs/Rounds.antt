-- Rounds at the end of a run.
use Rattle.std.specs.Prelude.{◌≡◌, ◌+◌, ◌<◌, ℕ, List, [], length, vec_len}
use Rattle.image_file.specs.ImageValue.{ImageValue}
use Rattle.processor.specs.World.{run}
use Rattle.processor.specs.declared.steps.Step.{Step}
use Rattle.step_views.specs.Changes.{AreChanges}
use Rattle.whole_runs.specs.FirstDifferences.{world_at}
use Rattle.run_rounds.specs.declared.run_ends.LastSteps.{LastSteps}
use Rattle.run_rounds.specs.declared.run_ends.LastSteps.TheVariants as last

-- From the world at the position to that at the end nothing has changed.
abbrev pub ComesBack : ImageValue → List Step → ℕ → Type 0
ComesBack image ts k = AreChanges (world_at image ts k) (run image ts) []

-- The round begins in the world of the end; or these are all places in which the worlds before and after the last steps, so
-- many of them, differ, one at least.
abbrev pub IsSaidOfLast : ImageValue → List Step → ℕ → LastSteps → Type 0
IsSaidOfLast image ts size (last.Round r) = ComesBack image ts r.begin
IsSaidOfLast image ts size (last.Differ v) =
    ((k : ℕ) → k + size ≡ length ts → AreChanges (world_at image ts k) (run image ts) v.items) × (0 < vec_len v)
