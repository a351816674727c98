-- What is told of the runs of seeds.
use Rattle.std.specs.Prelude.{◌≡◌, ◌<◌, ◌+◌, ◌%◌, ◌^◌, ℕ, List, Option, Some, None, length, slice_get}
use Rattle.image_file.specs.ImageValue.{ImageValue}
use Rattle.processor.specs.declared.steps.Step.{Step}
use Rattle.machine.specs.MachineValue.{MachineValue}
use Rattle.schedule_makers.specs.Seeds.{rule_of_seed}
use Rattle.schedule_makers.specs.FairLengths.{IsFairLength}
use Rattle.schedule_makers.specs.Made.{IsMade}
use Rattle.schedule_makers.specs.declared.made.MadeEnd.{MadeEnd}
use Rattle.processor.specs.World.{start}
use Rattle.expectations.specs.declared.expectation.Expectation.{Expectation}
use Rattle.claims.specs.declared.claim.Claim.{Claim}
use Rattle.seed_verdicts.specs.RunFlaws.{IsTold}
use Rattle.seed_verdicts.specs.declared.run_flaw.RunFlaw.{RunFlaw}
use Rattle.seed_verdicts.specs.declared.run_flaw.SeedFlaw.{SeedFlaw}
use Rattle.seed_verdicts.specs.declared.run_flaw.Seeds.{Seeds}

-- the machine of an image at its start
abbrev pub loaded : ImageValue → MachineValue
loaded image = record { image = image; world = start image }

-- This is told of the run by the schedule of at most so many steps that is made by the rule of a seed, where the fair run
-- of the image has `fair` steps.
pub record IsSeedTold (image : ImageValue) (expected : List Expectation) (claims : List Claim) (fair most seed : ℕ)
    (told : Option RunFlaw) : Type 0 where
  pub machine : MachineValue
  pub schedule : List Step
  pub end : MadeEnd
  pub made : IsMade (rule_of_seed seed fair) (loaded image) machine most schedule end
  pub shows : IsTold image schedule expected claims told

-- the seed at a place of seeds that begin with one; behind the greatest comes 0
abbrev pub seed_at : ℕ → ℕ → ℕ
seed_at first place = (first + place) % 2 ^ 64

-- These are told of the runs of the seeds from one place to another.
pub record AreToldFrom (image : ImageValue) (expected : List Expectation) (claims : List Claim)
    (fair most first begin end : ℕ) (told : List (Option RunFlaw)) : Type 0 where
  pub count : begin + length told ≡ end
  pub each : (k : ℕ) (o : Option RunFlaw) → slice_get told k ≡ Some o
      → IsSeedTold image expected claims fair most (seed_at first (begin + k)) o

-- The runs of the seeds at the first so many places are right.
abbrev pub AreRightBefore : ImageValue → List Expectation → List Claim → ℕ → Seeds → ℕ → Type 0
AreRightBefore image expected claims fair seeds place =
    (k : ℕ) → k < place → IsSeedTold image expected claims fair seeds.most (seed_at seeds.first k) None

-- The seed is at a place, its run has this flaw, and those of all seeds before it are right.
pub record IsFirstFlaw (image : ImageValue) (expected : List Expectation) (claims : List Claim) (fair : ℕ)
    (seeds : Seeds) (found : SeedFlaw) : Type 0 where
  pub place : ℕ
  pub below : place < seeds.count
  pub seed : found.seed ≡ seed_at seeds.first place
  pub flaw : IsSeedTold image expected claims fair seeds.most found.seed (Some found.flaw)
  pub before : AreRightBefore image expected claims fair seeds place

-- what is told of seeds: the first of them whose run is not right, with its flaw; nothing where each run is right
abbrev pub IsToldOfSeeds : ImageValue → List Expectation → List Claim → ℕ → Seeds → Option SeedFlaw → Type 0
IsToldOfSeeds image expected claims fair seeds None = AreRightBefore image expected claims fair seeds seeds.count
IsToldOfSeeds image expected claims fair seeds (Some found) = IsFirstFlaw image expected claims fair seeds found

-- The same, where the fair run of the image has as many steps as it has.
pub record AreJudged (image : ImageValue) (expected : List Expectation) (claims : List Claim) (seeds : Seeds)
    (found : Option SeedFlaw) : Type 0 where
  pub fair : ℕ
  pub is_fair : IsFairLength (loaded image) fair
  pub told : IsToldOfSeeds image expected claims fair seeds found
