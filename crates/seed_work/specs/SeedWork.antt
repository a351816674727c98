-- What the runs of seeds show of who does the work.
use Rattle.std.specs.Prelude.{◌≡◌, ◌<◌, ◌+◌, ℕ, List, Option, Some, None, length, slice_get}
use Rattle.image_file.specs.ImageValue.{ImageValue}
use Rattle.processor.specs.declared.steps.Step.{Step}
use Rattle.machine.specs.MachineValue.{MachineValue}
use Rattle.schedule_makers.specs.Seeds.{rule_of_seed}
use Rattle.schedule_makers.specs.FairLengths.{IsFairLength}
use Rattle.schedule_makers.specs.Made.{IsMade}
use Rattle.schedule_makers.specs.declared.made.MadeEnd.{MadeEnd}
use Rattle.seed_verdicts.specs.Seeds.{loaded, seed_at}
use Rattle.seed_verdicts.specs.declared.run_flaw.Seeds.{Seeds}
use Rattle.work_rules.specs.Runs.{first_missed_by}
use Rattle.work_rules.specs.declared.work_rule.WorkRule.{WorkRule}
use Rattle.seed_work.specs.declared.missed_work.MissedWork.{MissedWork}

-- The run by the schedule of at most so many steps that is made by the rule of a seed, where the fair run of the image has
-- `fair` steps, does not meet this line, the first of some, or meets all; and it ends for this reason.
pub record IsSeedWork (image : ImageValue) (rules : List WorkRule) (fair most seed : ℕ) (end : MadeEnd) (missed : Option ℕ)
    : Type 0 where
  pub machine : MachineValue
  pub schedule : List Step
  pub made : IsMade (rule_of_seed seed fair) (loaded image) machine most schedule end
  pub is : missed ≡ first_missed_by image schedule rules

-- the run of a seed meets all lines
abbrev pub MeetsAll : ImageValue → List WorkRule → ℕ → ℕ → ℕ → Type 0
MeetsAll image rules fair most seed = (end : MadeEnd) × IsSeedWork image rules fair most seed end None

-- what is known of the run of a seed: the first line that it does not meet, or that it meets all
abbrev pub IsKnownOfSeed : ImageValue → List WorkRule → ℕ → ℕ → ℕ → Option MissedWork → Type 0
IsKnownOfSeed image rules fair most seed None = MeetsAll image rules fair most seed
IsKnownOfSeed image rules fair most seed (Some m) =
    (m.seed ≡ seed) × IsSeedWork image rules fair most seed m.end (Some m.rule)

-- This is known of the runs of the seeds from one place to another.
pub record AreKnownFrom (image : ImageValue) (rules : List WorkRule) (fair most first begin end : ℕ)
    (found : List (Option MissedWork)) : Type 0 where
  pub count : begin + length found ≡ end
  pub each : (k : ℕ) (o : Option MissedWork) → slice_get found k ≡ Some o
      → IsKnownOfSeed image rules fair most (seed_at first (begin + k)) o

-- the runs of the seeds at the first so many places do
abbrev pub MeetAllBefore : ImageValue → List WorkRule → ℕ → Seeds → ℕ → Type 0
MeetAllBefore image rules fair seeds place =
    (k : ℕ) → k < place → MeetsAll image rules fair seeds.most (seed_at seeds.first k)

-- The seed is at a place, its run does not meet this line, and those of all seeds before it meet all.
pub record IsFirstMissed (image : ImageValue) (rules : List WorkRule) (fair : ℕ) (seeds : Seeds) (found : MissedWork)
    : Type 0 where
  pub place : ℕ
  pub below : place < seeds.count
  pub seed : found.seed ≡ seed_at seeds.first place
  pub missed : IsSeedWork image rules fair seeds.most found.seed found.end (Some found.rule)
  pub before : MeetAllBefore image rules fair seeds place

-- what is known of seeds: the first of them whose run does not meet all lines; nothing where the run of each does
abbrev pub IsKnownOfWork : ImageValue → List WorkRule → ℕ → Seeds → Option MissedWork → Type 0
IsKnownOfWork image rules fair seeds None = MeetAllBefore image rules fair seeds seeds.count
IsKnownOfWork image rules fair seeds (Some found) = IsFirstMissed image rules fair seeds found

-- The same, where the fair run of the image has as many steps as it has.
pub record IsWorkJudged (image : ImageValue) (rules : List WorkRule) (seeds : Seeds) (found : Option MissedWork)
    : Type 0 where
  pub fair : ℕ
  pub is_fair : IsFairLength (loaded image) fair
  pub known : IsKnownOfWork image rules fair seeds found
