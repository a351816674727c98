-- What a chooser by the fair rule keeps.
use Rattle.std.specs.Prelude.{◌≡◌, ◌<◌, ℕ, List, Option, None, length, slice_index_or}
use Rattle.processor.specs.declared.steps.Step.{Step}
use Rattle.schedule_makers.specs.Rules.{last_step, of_processor}

-- of each processor its last step, if it made one
pub record AreLast (lasts : List (Option Step)) (before : List Step) : Type 0 where
  pub room : length lasts ≡ 256
  pub each : (p : ℕ) → p < 256 → slice_index_or lasts p None ≡ last_step (of_processor p before)
