-- What is so of every schedule is so of each world of a space.
use Rattle.std.proofs.Common.{◌≡◌, ℕ, ◌<◌, ◌++◌, List, length, sym, ap, subst, arith}
use Rattle.std.specs.Prelude.{IsTrue}
use Rattle.processor.specs.World.{run}
use Rattle.processor.specs.declared.steps.Step.{Step}
use Rattle.expectations.specs.declared.expectation.Expectation.{Expectation}
use Rattle.claims.specs.declared.claim.Claim.{Claim}
use Rattle.busy_streams.specs.ScheduleSpace.Spaces.{SpaceValue, count, world_of, HasEarlierLinks}
use Rattle.busy_streams.specs.ScheduleSpace.Reaching.{IsEnd, CanEnd}
use Rattle.busy_streams.proofs.ScheduleSpace.Schedules.{goes_on}
use Rattle.schedule_verdicts.specs.RightEnds.{IsRightEnd}
use Rattle.schedule_verdicts.specs.KeptClaims.{all_hold}
use Rattle.schedule_verdicts.specs.RightSpaces.{IsRight, IsRightOnEachWay}

-- a schedule that goes on from the beginning leads to each world
pub begun : (v : SpaceValue) → HasEarlierLinks v → (k : ℕ) → k < count v
    → (ts : List Step) × (run v.image (v.begin ++ ts) ≡ world_of v k)
begun v earlier k below =
    let on = goes_on v.begin v.links (length v.links) k earlier (omega (arith, below)) (omega (arith, below)) in
    (on.0, ap (run v.image) (sym on.1))

pub right_of_space : (v : SpaceValue) (expected : List Expectation) (claims : List Claim) → HasEarlierLinks v
    → IsRightOnEachWay v.image v.begin expected claims → IsRight v expected claims
right_of_space v expected claims earlier right = record {
  ends = λ k below. record {
    right = λ end.
        let on = begun v earlier k below in
        subst (IsRightEnd expected) on.1 (right.right.ends on.0 (subst (IsEnd v.image) (sym on.1) end));
  };
  reach = λ must_end k below.
      let on = begun v earlier k below in
      subst (CanEnd v.image) on.1 (right.right.reach must_end on.0);
  kept = λ k below.
      let on = begun v earlier k below in
      subst (λ w. IsTrue (all_hold claims w)) on.1 (right.claimed on.0);
}
