-- Where no world of a space shows a claim, and these show whether claims hold, no schedule does: the opposite holds of each.
use Rattle.std.proofs.Common.{◌≡◌, ℕ, zero, suc, ◌<◌, inl, inr, refl, sym, ap, ◌∙◌, ◌++◌}
use Rattle.std.proofs.Common.{Bool, true, false, List, [], ◌∷◌, ◌&&◌, ◌||◌, Some, slice_get}
use Rattle.std.specs.Prelude.{IsTrue}
use Rattle.std.proofs.lemmas.Bool.{or_left, or_right}
use Rattle.std.proofs.lemmas.Option.{same_Some}
use Rattle.processor.specs.World.{World, run}
use Rattle.processor.specs.declared.steps.Step.{Step}
use Rattle.busy_streams.specs.DeadRegisters.Clearing.{IsLive}
use Rattle.claims.specs.Holding.{form_holds, holds_by, shown_by, shows}
use Rattle.claims.specs.Looking.{form_looks_at, is_looked_at, form_looks_at_word, is_word_looked_at}
use Rattle.claims.specs.declared.claim.Claim.{Claim}
use Rattle.claims.specs.declared.claim.Scope.{Scope}
use Rattle.claims.specs.declared.claim.Scope.TheVariants.{Always, Never, Once}
use Rattle.busy_streams.specs.ScheduleSpace.Spaces.{SpaceValue, count, world_of, IsComplete}
use Rattle.schedule_verdicts.specs.KeptClaims.{AreKept}
use Rattle.schedule_verdicts.specs.RightSpaces.{IsFollowedForClaims}
use Rattle.schedule_verdicts.specs.ShownClaims.{IsShown, IsUnshownIn, TellsOfClaims}
use Rattle.schedule_verdicts.proofs.Shown.{claims_hold}

-- what is not shown is never so
opposite : (scope : Scope) (so : Bool) → shown_by scope so ≡ false → (holds_by Never so && true) ≡ true
opposite Always so none = let h : ⊥ = cc in absurd h
opposite Never so none = let h : ⊥ = cc in absurd h
opposite Once true none = let h : ⊥ = cc in absurd h
opposite Once false none = refl

-- what is not shown by one world, and is never so in another, is not shown there
clash : (scope : Scope) (first so : Bool) → shown_by scope first ≡ false → (holds_by Never so && true) ≡ true
    → shown_by scope so ≡ true → ⊥
clash Always first so none never shown = cc
clash Never first so none never shown = cc
clash Once first true none never shown = cc
clash Once first false none never shown = cc

-- that it is never so
abbrev never : Claim → Claim
never c = record { scope = Never; form = c.form }

-- where one of some claims looks at a place, some claim does
member : (claims : List Claim) (k : ℕ) (c : Claim) (place : ℕ) → slice_get claims k ≡ Some c
    → IsTrue (form_looks_at place c.form) → IsTrue (is_looked_at claims place)
member [] k c place there is = let h : ⊥ = cc in absurd h
member (d ∷ ds) zero c place there is =
    or_left (form_looks_at place d.form) (is_looked_at ds place)
    (ap (λ (x : Claim). form_looks_at place x.form) (same_Some d c there) ∙ is)
member (d ∷ ds) (suc k) c place there is =
    or_right (form_looks_at place d.form) (is_looked_at ds place) (member ds k c place there is)

word_member : (claims : List Claim) (k : ℕ) (c : Claim) (a : ℕ) → slice_get claims k ≡ Some c
    → IsTrue (form_looks_at_word a c.form) → IsTrue (is_word_looked_at claims a)
word_member [] k c a there is = let h : ⊥ = cc in absurd h
word_member (d ∷ ds) zero c a there is =
    or_left (form_looks_at_word a d.form) (is_word_looked_at ds a)
    (ap (λ (x : Claim). form_looks_at_word a x.form) (same_Some d c there) ∙ is)
word_member (d ∷ ds) (suc k) c a there is =
    or_right (form_looks_at_word a d.form) (is_word_looked_at ds a) (word_member ds k c a there is)

alone : (b : Bool) → (b || false) ≡ true → b ≡ true
alone true is = refl
alone false is = is

followed_for_one : (v : SpaceValue) (claims : List Claim) (k : ℕ) (c : Claim) → slice_get claims k ≡ Some c
    → IsFollowedForClaims v claims → IsFollowedForClaims v (never c ∷ [])
followed_for_one v claims k c there all = record {
  looked_at = all.looked_at;
  words = all.words;
  covers = λ place is. all.covers place (member claims k c place there (alone (form_looks_at place c.form) is));
  covers_words = λ a is. all.covers_words a (word_member claims k c a there (alone (form_looks_at_word a c.form) is));
  quiet = all.quiet;
}

module _ (v : SpaceValue) (c : Claim) (none : IsUnshownIn v c) where
  abbrev ShownAfter : List Step → Type 0
  ShownAfter ts = IsTrue (shows (run v.image (v.begin ++ ts)) c)

  unshown_if_complete : IsComplete v → (ts : List Step) → ShownAfter ts → ⊥
  unshown_if_complete all ts shown =
      let has = all ts in
      let e : true ≡ false =
      sym shown ∙ ap (λ (w : World). shows w c) (sym has.2) ∙ none.worlds has.0 has.1 in
      cc

  kept : AreKept v (never c ∷ [])
  kept k below = opposite c.scope (form_holds (world_of v k) c.form) (none.worlds k below)

  unshown_if_followed : IsLive v.image v.live → IsFollowedForClaims v (never c ∷ []) → 0 < count v → (ts : List Step)
      → ShownAfter ts → ⊥
  unshown_if_followed live followed some ts shown =
      clash c.scope (form_holds (world_of v 0) c.form) (form_holds (run v.image (v.begin ++ ts)) c.form)
      (none.worlds 0 some) (claims_hold v (never c ∷ []) live followed kept ts) shown

  pub unshown : IsLive v.image v.live → 0 < count v → (claims : List Claim) (k : ℕ) → slice_get claims k ≡ Some c
      → TellsOfClaims v claims → IsShown v.image v.begin c → ⊥
  unshown live some claims k there tells (inl on) =
      let e : true ≡ false = sym on.2 ∙ none.before on.0 on.1 in cc
  unshown live some claims k there (inl all) (inr after) = unshown_if_complete all after.0 after.1
  unshown live some claims k there (inr followed) (inr after) =
      unshown_if_followed live (followed_for_one v claims k c there followed) some after.0 after.1
