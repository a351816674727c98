-- Whether every schedule is right.
use Rattle.std.specs.Prelude.{ℕ, ◌<◌, ◌++◌, Bool, false, List, IsTrue, IsFalse, slice_index_or}
use Rattle.std.specs.List.{Contains}
use Rattle.image_file.specs.ImageValue.{ImageValue}
use Rattle.processor.specs.World.{run}
use Rattle.processor.specs.declared.steps.Step.{Step}
use Rattle.expectations.specs.declared.expectation.Expectation.{Expectation}
use Rattle.claims.specs.Looking.{is_looked_at, is_word_looked_at}
use Rattle.claims.specs.declared.claim.Claim.{Claim}
use Rattle.busy_streams.specs.ScheduleSpace.Spaces.{SpaceValue, count, world_of}
use Rattle.busy_streams.specs.ScheduleSpace.Reaching.{IsEnd, CanEnd}
use Rattle.busy_streams.specs.ScheduleSpace.Quiet.{AllFollowedQuietly}
use Rattle.schedule_verdicts.specs.RightEnds.{IsRightEnd, may_loop}
use Rattle.schedule_verdicts.specs.KeptClaims.{all_hold, AreKept}

-- Every schedule that goes on from the beginning: where it ends it ends right, and wherever it is it can still come to an
-- end, unless the program may go on for ever.
pub record EndsRight (image : ImageValue) (begin : List Step) (expected : List Expectation) : Type 0 where
  pub ends : (ts : List Step) → IsEnd image (run image (begin ++ ts)) → IsRightEnd expected (run image (begin ++ ts))
  pub reach : IsFalse (may_loop expected) → (ts : List Step) → CanEnd image (run image (begin ++ ts))

-- the same, and the claims hold wherever it leads
pub record IsRightOnEachWay (image : ImageValue) (begin : List Step) (expected : List Expectation)
    (claims : List Claim) : Type 0 where
  pub right : EndsRight image begin expected
  pub claimed : (ts : List Step) → IsTrue (all_hold claims (run image (begin ++ ts)))

-- Of a space.

-- Its worlds show whether claims hold: each step from them is taken, or those of a set that can be taken before all others,
-- one of which nobody sees who looks at the places and words at which the claims look.
pub record IsFollowedForClaims (v : SpaceValue) (claims : List Claim) : Type 0 where
  pub looked_at : List Bool
  pub words : List ℕ
  pub covers : (place : ℕ) → IsTrue (is_looked_at claims place) → IsTrue (slice_index_or looked_at place false)
  pub covers_words : (a : ℕ) → IsTrue (is_word_looked_at claims a) → Contains words a
  pub quiet : AllFollowedQuietly looked_at words v

-- the world at this place is a right end, if it is an end
pub record IsRightAt (v : SpaceValue) (expected : List Expectation) (k : ℕ) : Type 0 where
  pub right : IsEnd v.image (world_of v k) → IsRightEnd expected (world_of v k)

-- each end of it is right
abbrev pub EndRight : SpaceValue → List Expectation → Type 0
EndRight v expected = (k : ℕ) → k < count v → IsRightAt v expected k

-- an end can be reached from each world of it
abbrev pub AllCanEnd : SpaceValue → Type 0
AllCanEnd v = (k : ℕ) → k < count v → CanEnd v.image (world_of v k)

-- both, the second one unless the program may go on for ever, and the claims hold of each world of it
pub record IsRight (v : SpaceValue) (expected : List Expectation) (claims : List Claim) : Type 0 where
  pub ends : EndRight v expected
  pub reach : IsFalse (may_loop expected) → AllCanEnd v
  pub kept : AreKept v claims
