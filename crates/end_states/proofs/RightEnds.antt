-- A judgement is as expected just where the run may end so.
use Rattle.std.proofs.Common.{◌≡◌, ℕ, ◌⊎◌, inl, inr, Bool, true, false, refl, sym, ap, ◌∙◌, Option, Some, None, List}
use Rattle.std.specs.Prelude.{not, ◌&&◌, ◌||◌, ◌↔◌, is_some, IsTrue, IsFalse}
use Rattle.std.specs.List.{list_all, position}
use Rattle.std.proofs.lemmas.List.Sums.{AllPass-from_list_all, list_all-from_AllPass}
use Rattle.std.proofs.lemmas.List.Elements.{recursion_from_All}
use Rattle.image_file.specs.ImageValue.{ImageValue}
use Rattle.image_file.proofs.Searches.{none_where_all_pass, none_fails}
use Rattle.processor.specs.World.{World}
use Rattle.waiting.specs.Stuck.{SomeRuns, IsStandstill}
use Rattle.end_kinds.specs.declared.kinds.EndKind.{EndKind}
use Rattle.end_kinds.specs.declared.kinds.EndKind.TheVariants as kind
use Rattle.expectations.specs.Meeting.{is_met}
use Rattle.expectations.specs.declared.expectation.Expectation.{Expectation}
use Rattle.schedule_verdicts.specs.RightEnds.{AreTrapsExpected, AreWaitsExpected, IsRightEnd}
use Rattle.schedule_verdicts.specs.ScheduleSpace.Reaching.{IsEnd}
use Rattle.schedule_verdicts.proofs.Resting.{none_waits}
use Rattle.end_states.specs.Judgements.{is_deadlock, is_expected, IsJudgedKind}
use Rattle.end_states.specs.declared.judgements.EndJudgement.{EndJudgement}

true_of_not : (b : Bool) → not b ≡ false → b ≡ true
true_of_not true e = refl
true_of_not false e = cc

none_of : (o : Option ℕ) → is_some o ≡ false → o ≡ None
none_of None e = refl
none_of (Some k) e = cc

-- what is missed by none is met by all
all_pass : {X : Type 0} (test : X → Bool) (xs : List X) → position (λ x. not (test x)) xs ≡ None → list_all test xs ≡ true
all_pass test xs none =
    list_all-from_AllPass test xs (λ k d within. true_of_not _ (none_fails (λ x. not (test x)) xs none k d within))

none_missed : {X : Type 0} (test : X → Bool) (xs : List X) → list_all test xs ≡ true
    → position (λ x. not (test x)) xs ≡ None
none_missed test xs all =
    none_where_all_pass (λ x. not (test x)) xs
    (recursion_from_All (λ x. not (test x) ≡ false) xs
    (λ k d within. ap not (AllPass-from_list_all test xs all k d within)))

module _ (image : ImageValue) (w : World) (expected : List Expectation) where
  -- where each stream that runs may wait it is no deadlock
  no_deadlock : (k : EndKind) → AreWaitsExpected expected w → IsJudgedKind image expected w k → is_deadlock k ≡ false
  no_deadlock kind.Finished waits is = refl
  no_deadlock kind.Stopped waits is = refl
  no_deadlock kind.Deadlock waits is = absurd (is.1 waits)
  no_deadlock kind.Waiting waits is = refl
  no_deadlock kind.Spinning waits is = refl
  no_deadlock kind.Looping waits is = refl
  no_deadlock kind.OutOfSteps waits is = refl

  never : IsEnd image w → SomeRuns w → ¬ IsStandstill image w → ⊥
  never (inl none) some able = none some
  never (inr still) some able = able still

  -- an end that is no deadlock is one where each stream that runs may wait
  all_wait : (k : EndKind) → is_deadlock k ≡ false → IsEnd image w → IsJudgedKind image expected w k
      → AreWaitsExpected expected w
  all_wait kind.Finished other ends is = none_waits expected w is.0
  all_wait kind.Stopped other ends is = none_waits expected w is.0
  all_wait kind.Deadlock other ends is = absurd (cc)
  all_wait kind.Waiting other ends is = is.1
  all_wait kind.Spinning other ends is = absurd is
  all_wait kind.Looping other ends is = absurd is
  all_wait kind.OutOfSteps other ends is = absurd (never ends is.0 is.1)

parts : (d m b t : Bool) → (not d && not (m || b) && not t) ≡ true → (d ≡ false) × (m ≡ false) × (t ≡ false)
parts true m b t e = absurd (cc)
parts false true b t e = absurd (cc)
parts false false true t e = absurd (cc)
parts false false false true e = absurd (cc)
parts false false false false e = (refl, refl, refl)

whole : (d m b t : Bool) → d ≡ false → m ≡ false → b ≡ false → t ≡ false → (not d && not (m || b) && not t) ≡ true
whole d m b t no_d no_m no_b no_t = λ i. not (no_d i) && not (no_m i || no_b i) && not (no_t i)

pub right : (image : ImageValue) (w : World) (expected : List Expectation) (j : EndJudgement) → IsEnd image w
    → IsJudgedKind image expected w j.kind → j.missed ≡ position (λ x. not (is_met w x)) expected → j.broken ≡ None
    → (IsFalse j.is_trapped ↔ AreTrapsExpected expected w) → IsTrue (is_expected j) ↔ IsRightEnd expected w
right image w expected j ends of_kind missed broken trapped = (
  λ yes.
      let found = parts (is_deadlock j.kind) (is_some j.missed) (is_some j.broken) j.is_trapped yes in
      record {
        waits = all_wait image w expected j.kind found.0 ends of_kind;
        met = all_pass (is_met w) expected (sym missed ∙ none_of j.missed found.1);
        traps = trapped.0 found.2;
      },
  λ is.
      whole (is_deadlock j.kind) (is_some j.missed) (is_some j.broken) j.is_trapped
      (no_deadlock image w expected j.kind is.waits of_kind)
      (ap (λ (o : Option ℕ). is_some o) (missed ∙ none_missed (is_met w) expected is.met))
      (ap (λ (o : Option ℕ). is_some o) broken) (trapped.1 is.traps),
)

pub trapped_where : {P : Type 0} (b : Bool) → (IsTrue b ↔ P) → IsFalse (not b) ↔ P
trapped_where true is = (λ no. is.0 refl, λ p. refl)
trapped_where false is = (λ no. absurd (cc), λ p. sym (is.1 p))
