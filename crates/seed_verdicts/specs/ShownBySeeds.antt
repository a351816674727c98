-- What the runs of seeds show of claims that have to hold of one world at least.
use Rattle.std.specs.Prelude.{◌≡◌, ◌<◌, ℕ, List, Option, Some, None, slice_get}
use Rattle.image_file.specs.ImageValue.{ImageValue}
use Rattle.processor.specs.declared.steps.Step.{Step}
use Rattle.machine.specs.MachineValue.{MachineValue}
use Rattle.schedule_makers.specs.Seeds.{rule_of_seed}
use Rattle.schedule_makers.specs.FairLengths.{IsFairLength}
use Rattle.schedule_makers.specs.Made.{IsMade}
use Rattle.schedule_makers.specs.declared.made.MadeEnd.{MadeEnd}
use Rattle.claims.specs.declared.claim.Claim.{Claim}
use Rattle.schedule_verdicts.specs.ShownClaims.{IsShownOnTheWay, IsUnshownOnTheWay}
use Rattle.seed_verdicts.specs.Seeds.{loaded, seed_at}
use Rattle.seed_verdicts.specs.declared.run_flaw.Seeds.{Seeds}

-- The run by the schedule of at most so many steps that is made by the rule of a seed shows a claim in some world on its
-- way, where the fair run of the image has `fair` steps.
pub record IsShownBySeed (image : ImageValue) (fair most seed : ℕ) (c : Claim) : Type 0 where
  pub machine : MachineValue
  pub schedule : List Step
  pub end : MadeEnd
  pub made : IsMade (rule_of_seed seed fair) (loaded image) machine most schedule end
  pub shown : IsShownOnTheWay image schedule c

-- It shows it in none.
pub record IsUnshownBySeed (image : ImageValue) (fair most seed : ℕ) (c : Claim) : Type 0 where
  pub machine : MachineValue
  pub schedule : List Step
  pub end : MadeEnd
  pub made : IsMade (rule_of_seed seed fair) (loaded image) machine most schedule end
  pub unshown : IsUnshownOnTheWay image schedule c

-- the run of one of the seeds shows it
abbrev pub IsShownBySeeds : ImageValue → ℕ → Seeds → Claim → Type 0
IsShownBySeeds image fair seeds c =
    (k : ℕ) × (k < seeds.count) × IsShownBySeed image fair seeds.most (seed_at seeds.first k) c

-- the runs of the first so many of them don't
abbrev pub IsUnshownBefore : ImageValue → ℕ → Seeds → Claim → ℕ → Type 0
IsUnshownBefore image fair seeds c place =
    (k : ℕ) → k < place → IsUnshownBySeed image fair seeds.most (seed_at seeds.first k) c

-- Each of some claims is shown by the run of one of the seeds.
pub record AreShownBySeeds (image : ImageValue) (claims : List Claim) (seeds : Seeds) : Type 0 where
  pub fair : ℕ
  pub is_fair : IsFairLength (loaded image) fair
  pub each : (k : ℕ) (c : Claim) → slice_get claims k ≡ Some c → IsShownBySeeds image fair seeds c

-- The claim at this place is shown by none, and each earlier one is shown.
pub record IsUnshownBySeeds (image : ImageValue) (claims : List Claim) (seeds : Seeds) (place : ℕ) : Type 0 where
  pub fair : ℕ
  pub is_fair : IsFairLength (loaded image) fair
  pub claim : Claim
  pub there : slice_get claims place ≡ Some claim
  pub unshown : IsUnshownBefore image fair seeds claim seeds.count
  pub earlier : (k : ℕ) → k < place → (c : Claim) → slice_get claims k ≡ Some c → IsShownBySeeds image fair seeds c

-- what is told of claims: the place of the first one that the run of no seed shows; nothing where each is shown
abbrev pub IsToldOfClaims : ImageValue → List Claim → Seeds → Option ℕ → Type 0
IsToldOfClaims image claims seeds None = AreShownBySeeds image claims seeds
IsToldOfClaims image claims seeds (Some place) = IsUnshownBySeeds image claims seeds place
