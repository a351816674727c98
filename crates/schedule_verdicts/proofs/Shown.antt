-- What is claimed holds wherever a schedule leads, where it holds of each world of a space that leaves out just steps at
-- which the claims do not look.
use Rattle.std.proofs.Common.{ℕ, ◌⊎◌, inl, inr, sym, ◌∙◌, ◌++◌, subst, List}
use Rattle.std.specs.Prelude.{IsTrue}
use Rattle.processor.specs.World.{World, run, steps}
use Rattle.processor.specs.declared.steps.Step.{Step}
use Rattle.processor.proofs.Histories.{steps-append}
use Rattle.busy_streams.specs.SameFutures.Handlers.{may_have_handlers}
use Rattle.busy_streams.specs.SameFutures.Links.{TellsHandlers}
use Rattle.busy_streams.proofs.SameFutures.Chains.{schedules_agree}
use Rattle.busy_streams.specs.DeadRegisters.Clearing.{IsLive, AgreeBy}
use Rattle.busy_streams.specs.AgreeingEnds.Followed as found
use Rattle.busy_streams.specs.AgreeingEnds.Unseen.{IsMoving, IsRespected, IsTakenTogetherUnseen}
use Rattle.busy_streams.proofs.AgreeingEnds.Keeping.{holds_wherever}
use Rattle.expectations.specs.declared.expectation.Expectation.{Expectation}
use Rattle.claims.specs.declared.claim.Claim.{Claim}
use Rattle.busy_streams.specs.ScheduleSpace.Spaces.{SpaceValue}
use Rattle.busy_streams.specs.ScheduleSpace.Finding.{found_in}
use Rattle.busy_streams.specs.ScheduleSpace.Followed.{AllFollowed}
use Rattle.busy_streams.specs.ScheduleSpace.Quiet.{IsFollowedQuietly}
use Rattle.busy_streams.proofs.ScheduleSpace.Agreeing.{Named, Live, Asked, ground, from_begin}
use Rattle.busy_streams.proofs.ScheduleSpace.Alone.{followed_all}
use Rattle.busy_streams.proofs.ScheduleSpace.Following.{ends_all, tells_all}
use Rattle.schedule_verdicts.specs.KeptClaims.{all_hold, AreKept}
use Rattle.schedule_verdicts.specs.NamedRegisters.{AreNamed, EndOfRegisters}
use Rattle.schedule_verdicts.specs.RightSpaces.{IsRight, IsRightOnEachWay, IsFollowedForClaims}
use Rattle.schedule_verdicts.proofs.Alike.{agreeing_claims}
use Rattle.schedule_verdicts.proofs.StandIns.{right_by_ends}
use Rattle.schedule_verdicts.proofs.Unseen.{same_claims}

module _ (v : SpaceValue) (claims : List Claim) (live : IsLive v.image v.live) (shown : IsFollowedForClaims v claims) where
  abbrev Holds : World → Type 0
  Holds w = IsTrue (all_hold claims w)

  moving : IsMoving (AgreeBy v.live) (found_in v)
  moving = record {
    on = λ k below us w ts alike.
        schedules_agree v.image (IsTrue (may_have_handlers v.image)) (Named v.live) (Live v.live) (Asked v.live)
        (ground v live).closed ts
        (steps v.image ((found_in v).world k) us) w
        (λ vs.
        subst (TellsHandlers (IsTrue (may_have_handlers v.image)))
        (steps-append v.image ((found_in v).world k) us vs) ((ground v live).told k below (us ++ vs)))
        alike;
  }

  respects : IsRespected (AgreeBy v.live) Holds
  respects a b alike holds = sym (agreeing_claims v.live a b alike claims) ∙ holds

  unseen_at : (k : ℕ) → IsFollowedQuietly shown.looked_at shown.words v k
      → found.IsExpanded (AgreeBy v.live) (found_in v) k ⊎ IsTakenTogetherUnseen (AgreeBy v.live) Holds (found_in v) k
  unseen_at k (inl each) = inl (λ t. (each t).step)
  unseen_at k (inr one) = inr (record {
    together = record {
      set = one.together.set;
      first = one.together.first;
      taken = λ t there. (one.together.taken t there).step;
    };
    step = one.step;
    there = one.there;
    taken = one.taken.step;
    later = one.later;
    unseen = λ us out holds.
        sym (same_claims shown.looked_at shown.words v.image (steps v.image ((found_in v).world k) us) one.step
        (one.unseen us out) claims shown.covers shown.covers_words)
        ∙ holds;
  })

  pub claims_hold : AreKept v claims → (ts : List Step) → Holds (run v.image (v.begin ++ ts))
  claims_hold kept ts =
      subst Holds (from_begin v ts)
      (holds_wherever (AgreeBy v.live) Holds (found_in v) moving respects (λ k below. unseen_at k (shown.quiet k below)) kept
      (ground v live).some ts)

pub right_by_followed : (v : SpaceValue) (expected : List Expectation) (claims : List Claim) → IsRight v expected claims
    → EndOfRegisters v expected → IsLive v.image v.live → AreNamed expected v.live.names → IsFollowedForClaims v claims
    → IsRightOnEachWay v.image v.begin expected claims
right_by_followed v expected claims right of live named shown =
    let all : AllFollowed v = followed_all shown.looked_at shown.words v shown.quiet in
    record {
      right =
          right_by_ends v expected claims right of live named (ends_all v live all) (tells_all v live all);
      claimed = claims_hold v claims live shown right.kept;
    }
