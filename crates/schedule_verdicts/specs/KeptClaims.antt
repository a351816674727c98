-- Claims about all worlds of a space, and about those on the way through a schedule.
use Rattle.std.specs.Prelude.{ℕ, ◌<◌, ◌≤◌, Bool, IsTrue, List, length, take}
use Rattle.std.specs.List.{list_all}
use Rattle.image_file.specs.ImageValue.{ImageValue}
use Rattle.processor.specs.World.{World, run}
use Rattle.processor.specs.declared.steps.Step.{Step}
use Rattle.claims.specs.Holding.{holds}
use Rattle.claims.specs.declared.claim.Claim.{Claim}
use Rattle.busy_streams.specs.ScheduleSpace.Spaces.{SpaceValue, count, world_of}

-- whether some claims hold of a world
abbrev pub all_hold : List Claim → World → Bool
all_hold claims w = list_all (holds w) claims

-- one claim holds of each world of a space
abbrev pub IsKept : SpaceValue → Claim → Type 0
IsKept v claim = (k : ℕ) → k < count v → IsTrue (holds (world_of v k) claim)

-- they hold of each world of a space
abbrev pub AreKept : SpaceValue → List Claim → Type 0
AreKept v claims = (k : ℕ) → k < count v → IsTrue (all_hold claims (world_of v k))

-- they hold of each world on the way through a schedule: of the first one, and of that behind each step
abbrev pub AreKeptOnTheWay : ImageValue → List Step → List Claim → Type 0
AreKeptOnTheWay image ts claims = (k : ℕ) → k ≤ length ts → IsTrue (all_hold claims (run image (take k ts)))
