-- What is so of each world of a space is so of every schedule.
use Rattle.std.proofs.Common.{◌≡◌, ℕ, ◌+◌, ◌<◌, ◌≤◌, ◌⊎◌, ◌++◌, List, sym, subst, arith, inl, inr}
use Rattle.std.proofs.lemmas.Bool.{cases_lt}
use Rattle.std.specs.Prelude.{IsTrue}
use Rattle.processor.specs.World.{World, run}
use Rattle.expectations.specs.declared.expectation.Expectation.{Expectation}
use Rattle.claims.specs.declared.claim.Claim.{Claim}
use Rattle.busy_streams.specs.ScheduleSpace.Spaces.{SpaceValue, Has, IsComplete}
use Rattle.busy_streams.specs.ScheduleSpace.Reaching.{IsEnd, CanEnd}
use Rattle.schedule_verdicts.specs.RightEnds.{IsRightEnd}
use Rattle.schedule_verdicts.specs.KeptClaims.{all_hold}
use Rattle.schedule_verdicts.specs.RightSpaces.{IsRight, IsRightOnEachWay}

-- what is so below a number and of it is so below the next
pub below_more : (P : ℕ → Type 0) (n : ℕ) → ((k : ℕ) → k < n → P k) → P n → (k : ℕ) → k < n + 1 → P k
below_more P n below here k within = by (cases_lt k n) where
  by : (k < n) ⊎ (n ≤ k) → P k
  by (inl less) = below k less
  by (inr most) = let same : n ≡ k = omega (arith, within, most) in subst P same here

right_at : (v : SpaceValue) (expected : List Expectation) (claims : List Claim) (w : World)
    → IsRight v expected claims → Has v w → IsEnd v.image w → IsRightEnd expected w
right_at v expected claims w right has end =
    subst (IsRightEnd expected) has.2 ((right.ends has.0 has.1).right (subst (IsEnd v.image) (sym has.2) end))

pub right_by_worlds : (v : SpaceValue) (expected : List Expectation) (claims : List Claim)
    → IsRight v expected claims → IsComplete v → IsRightOnEachWay v.image v.begin expected claims
right_by_worlds v expected claims right all = record {
  right = record {
    ends = λ ts end. right_at v expected claims (run v.image (v.begin ++ ts)) right (all ts) end;
    reach = λ must_end ts. subst (CanEnd v.image) (all ts).2 (right.reach must_end (all ts).0 (all ts).1);
  };
  claimed = λ ts.
      subst (λ w. IsTrue (all_hold claims w)) (all ts).2 (right.kept (all ts).0 (all ts).1);
}
