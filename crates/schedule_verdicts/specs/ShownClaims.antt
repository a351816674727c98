-- Claims that have to hold of one world at least.
use Rattle.std.specs.Prelude.{◌≡◌, ℕ, ◌<◌, ◌≤◌, ◌++◌, ◌⊎◌, Bool, false, IsTrue, List, Some, length, take, slice_get}
use Rattle.image_file.specs.ImageValue.{ImageValue}
use Rattle.processor.specs.World.{run}
use Rattle.processor.specs.declared.steps.Step.{Step}
use Rattle.claims.specs.Holding.{shows}
use Rattle.claims.specs.declared.claim.Claim.{Claim}
use Rattle.busy_streams.specs.ScheduleSpace.Spaces.{SpaceValue, count, world_of, IsComplete}
use Rattle.busy_streams.specs.Busy.{IsNeverBusy}
use Rattle.expectations.specs.declared.expectation.Expectation.{Expectation}
use Rattle.schedule_verdicts.specs.KeptClaims.{AreKeptOnTheWay}
use Rattle.schedule_verdicts.specs.RightSpaces.{IsRightOnEachWay, IsFollowedForClaims}

-- some world on the way through a schedule shows a claim, the first one and the last one too
abbrev pub IsShownOnTheWay : ImageValue → List Step → Claim → Type 0
IsShownOnTheWay image ts c = (k : ℕ) × (k ≤ length ts) × IsTrue (shows (run image (take k ts)) c)

-- none does
abbrev pub IsUnshownOnTheWay : ImageValue → List Step → Claim → Type 0
IsUnshownOnTheWay image ts c = (k : ℕ) → k ≤ length ts → shows (run image (take k ts)) c ≡ false

-- some world shows it to which a schedule leads that goes on from the beginning, or one on the way through that
abbrev pub IsShown : ImageValue → List Step → Claim → Type 0
IsShown image begin c =
    IsShownOnTheWay image begin c ⊎ ((ts : List Step) × IsTrue (shows (run image (begin ++ ts)) c))

-- each of some claims is shown so
abbrev pub AreShown : ImageValue → List Step → List Claim → Type 0
AreShown image begin claims = (k : ℕ) (c : Claim) → slice_get claims k ≡ Some c → IsShown image begin c

-- Every schedule that goes on from the beginning is right, the claims hold on the way through the beginning too, and each
-- is shown; where it is wished, no stream goes round alone wherever such a schedule leads.
pub record IsRightThroughout (image : ImageValue) (begin : List Step) (expected : List Expectation)
    (claims : List Claim) (never_busy : Bool) : Type 0 where
  pub right : IsRightOnEachWay image begin expected claims
  pub before : AreKeptOnTheWay image begin claims
  pub shown : AreShown image begin claims
  pub busy : IsTrue never_busy → IsNeverBusy image begin

-- Of a space.

-- no world of it shows the claim, nor one on the way through its beginning
pub record IsUnshownIn (v : SpaceValue) (c : Claim) : Type 0 where
  pub worlds : (k : ℕ) → k < count v → shows (world_of v k) c ≡ false
  pub before : IsUnshownOnTheWay v.image v.begin c

-- its worlds show whether claims hold: they are all, or they are followed for the claims
abbrev pub TellsOfClaims : SpaceValue → List Claim → Type 0
TellsOfClaims v claims = IsComplete v ⊎ IsFollowedForClaims v claims

-- None of its worlds shows the claim at this place, nor one on the way through its beginning; each earlier claim is shown.
pub record IsUnshownAt (v : SpaceValue) (claims : List Claim) (k : ℕ) : Type 0 where
  pub claim : Claim
  pub there : slice_get claims k ≡ Some claim
  pub unshown : IsUnshownIn v claim
  pub earlier : (j : ℕ) → j < k → (c : Claim) → slice_get claims j ≡ Some c → IsShown v.image v.begin c
