use Rattle.std.proofs.Common.{◌≡◌, ◌∙◌, ◌≤◌, Some, slice_get, rules, sym, subst, arith, length}
use Rattle.std.proofs.lemmas.Option.{same_Some, slice_get_within}
use Rattle.claims.specs.declared.claim.Claim.{Claim}
use Rattle.schedule_verdicts.specs.ShownClaims.{IsShown, IsUnshownIn}
use Rattle.schedule_verdicts.proofs.Every.{below_more}
use Rattle.schedule_verdicts.proofs.Marks.{space_at, there_at, as_many}
use Rattle.schedule_verdicts.proofs.Sought.{unshown}
use Rattle.schedule_verdicts.proofs.shown_claims.first_unshown.Goals as goal

pub is_shown-requires : goal.is_shown-requires
is_shown-requires g c =
    space_at c.args.space.now c.args.claims.now c.in_ok-marks.marks.items c.loop-place.place c.index.result.now
    c.in_ok-marks.ensures.marks (search rules) c.index.ensures

pub returns-then-not-branch-clause-only : goal.returns-then-not-branch-clause-only
returns-then-not-branch-clause-only g c = λ tells all.
    let v = c.args.space.now in
    let claims = c.args.claims.now in
    let place = c.loop-place.place in
    let m = c.index.result.now in
    let there =
    there_at v claims c.in_ok-marks.marks.items place m c.in_ok-marks.ensures.marks (search rules) c.index.ensures in
    let none : IsUnshownIn v m.claim = c.in_ok-is_shown.ensures.unshown (search rules) in
    absurd
    (unshown v m.claim none c.live-live.ensures.live (omega arith) claims place there tells (all place m.claim there))

pub returns-then-not-branch-clause-unshown : goal.returns-then-not-branch-clause-unshown
returns-then-not-branch-clause-unshown g c =
    let m = c.index.result.now in
    record {
      claim = m.claim;
      there =
          there_at c.args.space.now c.args.claims.now c.in_ok-marks.marks.items c.loop-place.place m
          c.in_ok-marks.ensures.marks (search rules) c.index.ensures;
      unshown = c.in_ok-is_shown.ensures.unshown (search rules);
      earlier = c.loop-place.invariant;
    }

pub loop-place-preserved : goal.loop-place-preserved
loop-place-preserved g c =
    let v = c.args.space.now in
    let claims = c.args.claims.now in
    let place = c.loop-place.place in
    let m = c.index.result.now in
    let there =
    there_at v claims c.in_ok-marks.marks.items place m c.in_ok-marks.ensures.marks (search rules) c.index.ensures in
    let here : IsShown v.image v.begin m.claim = c.in_ok-is_shown.ensures.shown (search rules) in
    below_more (λ k. (d : Claim) → slice_get claims k ≡ Some d → IsShown v.image v.begin d) place c.loop-place.invariant
    (λ d read. subst (IsShown v.image v.begin) (same_Some m.claim d (sym there ∙ read)) here)

pub returns-clause-shown : goal.returns-clause-shown
returns-clause-shown g c = λ none k d read.
    let within = slice_get_within c.args.claims.now k d read in
    let long = as_many c.args.space.now c.args.claims.now c.in_ok-marks.marks.items c.in_ok-marks.ensures.marks in
    let past : length c.in_ok-marks.marks.items ≤ c.loop-place.place = search rules in
    c.loop-place.invariant k (omega (arith, within, long, past)) d read
