-- Who does the work in a run by a schedule.
use Rattle.std.specs.Prelude.{ℕ, List, Option}
use Rattle.image_file.specs.ImageValue.{ImageValue}
use Rattle.processor.specs.World.{start}
use Rattle.processor.specs.declared.steps.Step.{Step}
use Rattle.whole_runs.specs.RunActions.{actions_of}
use Rattle.work_rules.specs.Work.{first_missed}
use Rattle.work_rules.specs.declared.work_rule.WorkRule.{WorkRule}

-- the place of the first line that the run of an image by a schedule, from its start, does not meet
abbrev pub first_missed_by : ImageValue → List Step → List WorkRule → Option ℕ
first_missed_by image ts rules = first_missed (actions_of image (start image) ts) rules
