-- What is so of each end of a space is so of the ends for which one of them stands.
use Rattle.std.proofs.Common.{◌≡◌, ℕ, ◌<◌, inl, inr, ◌++◌, refl, sym, ◌∙◌, arith, Bool, true, ◌||◌, List, [], ◌∷◌}
use Rattle.std.specs.Prelude.{IsTrue}
use Rattle.std.proofs.lemmas.Bool.{or_cases}
use Rattle.image_file.specs.ImageValue.{ImageValue}
use Rattle.processor.specs.World.{World, run}
use Rattle.processor.specs.declared.steps.Step.{Step}
use Rattle.program_flow.specs.Tables.{is_live_at, is_named_by, is_asked_at}
use Rattle.busy_streams.specs.SameFutures.Agreeing.{EndAlike}
use Rattle.busy_streams.specs.SameFutures.Handlers.{may_have_handlers}
use Rattle.busy_streams.specs.SameFutures.Links.{TellsHandlers}
use Rattle.busy_streams.proofs.SameFutures.Chains.{agree_back}
use Rattle.busy_streams.proofs.SameFutures.Alike.{agreeing_end_alike}
use Rattle.busy_streams.proofs.SameFutures.NoHandlers.{told_by}
use Rattle.end_kinds.specs.declared.kinds.EndKind.TheVariants as kind
use Rattle.busy_streams.specs.DeadRegisters.Clearing.{LiveValue, IsLive, AgreeBy}
use Rattle.expectations.specs.NamedRegisters.{names_register, is_register_named, IsOfRegisters}
use Rattle.expectations.specs.declared.expectation.Expectation.{Expectation}
use Rattle.expectations.specs.declared.expectation.Expectation.TheVariants as expect
use Rattle.claims.specs.declared.claim.Claim.{Claim}
use Rattle.busy_streams.specs.ScheduleSpace.Spaces.{SpaceValue, world_of, HasStandIn}
use Rattle.busy_streams.specs.ScheduleSpace.Reaching.{IsEnd}
use Rattle.busy_streams.specs.ScheduleSpace.Followed.{HasAllEnds, TellsWhetherAllEnd}
use Rattle.schedule_verdicts.specs.NamedRegisters.{AreNamed, AreAllNamed, AreOfRegisters, EndOfRegisters}
use Rattle.schedule_verdicts.specs.RightEnds.{IsRightEnd}
use Rattle.schedule_verdicts.specs.RightSpaces.{EndRight, EndsRight, IsRight}
use Rattle.schedule_verdicts.proofs.Alike.{agreeing_right}

-- Registers.

below_one : (e : Expectation) (r : ℕ) → IsOfRegisters e → IsTrue (names_register r e) → r < 32
below_one (expect.Word a value state) r of named = absurd cc
below_one (expect.Words a b value state) r of named = absurd cc
below_one (expect.Sum a b value) r of named = absurd cc
below_one (expect.Compared a t b more) r of named = absurd cc
below_one (expect.Register p s n value) r of named = grind (arith, of, named)
below_one expect.Finished r of named = absurd cc
below_one (expect.Stopped p s trap) r of named = absurd cc
below_one (expect.Waits p s first last) r of named = absurd cc
below_one expect.Loops r of named = absurd cc

either : {P : Type 0} (a b : Bool) → (IsTrue a → P) → (IsTrue b → P) → (a || b) ≡ true → P
either a b here later is = elim (or_cases a b is) [
  | inl so ↦ here so
  | inr so ↦ later so
]

below : (es : List Expectation) (r : ℕ) → AreOfRegisters es → IsTrue (is_register_named es r) → r < 32
below [] r of named = absurd cc
below (e ∷ es) r of named =
    either (names_register r e) (is_register_named es r) (below_one e r of.0) (below es r of.1) named

all_named : (es : List Expectation) (names : List Bool) → AreNamed es names → AreOfRegisters es → AreAllNamed es names
all_named es names named of = λ r is. named r (below es r of is) is

-- Ends.

abbrev NamedBy : LiveValue → ℕ → Type 0
NamedBy l r = IsTrue (is_named_by l.names r)

abbrev LiveBy : LiveValue → ℕ → ℕ → Type 0
LiveBy l k r = IsTrue (is_live_at l.table k r)

abbrev AskedBy : LiveValue → ℕ → ℕ → Type 0
AskedBy l k c = IsTrue (is_asked_at l.codes k c)

end_on : (image : ImageValue) (l : LiveValue) (live : IsLive image l) (ts : List Step) (w : World)
    → AgreeBy l w (run image ts) → IsEnd image (run image ts) → IsEnd image w
end_on image l live ts w g end = by end where
  told : TellsHandlers (IsTrue (may_have_handlers image)) (run image ts)
  told = told_by image (may_have_handlers image) refl ts

  alike : EndAlike image (run image ts) w
  alike =
      agreeing_end_alike image (IsTrue (may_have_handlers image)) (NamedBy l) (LiveBy l) (AskedBy l)
      (record { registers = live.registers; codes = live.codes }) (run image ts) w told
      (agree_back (NamedBy l) (LiveBy l) (AskedBy l) w (run image ts) g)

  by : IsEnd image (run image ts) → IsEnd image w
  by (inl none) = inl (λ some. none (some.0, sym (alike.run some.0) ∙ some.1))
  by (inr still) = inr ((alike.kinds kind.Deadlock).0 still)

stands_right : (v : SpaceValue) (expected : List Expectation) (ts : List Step) → IsLive v.image v.live
    → AreNamed expected v.live.names → EndRight v expected → EndOfRegisters v expected → HasStandIn v (run v.image ts)
    → IsEnd v.image (run v.image ts) → IsRightEnd expected (run v.image ts)
stands_right v expected ts live named right of has end =
    let there = end_on v.image v.live live ts (world_of v has.0) has.2 end in
    agreeing_right v.live (world_of v has.0) (run v.image ts) has.2 expected
    (all_named expected v.live.names named (of has.0 has.1 there)) ((right has.0 has.1).right there)

pub right_by_ends : (v : SpaceValue) (expected : List Expectation) (claims : List Claim) → IsRight v expected claims
    → EndOfRegisters v expected → IsLive v.image v.live → AreNamed expected v.live.names → HasAllEnds v
    → TellsWhetherAllEnd v → EndsRight v.image v.begin expected
right_by_ends v expected claims right of live named all tells = record {
  ends = λ ts end. stands_right v expected (v.begin ++ ts) live named right.ends of (all ts end) end;
  reach = λ must_end. tells (right.reach must_end);
}
