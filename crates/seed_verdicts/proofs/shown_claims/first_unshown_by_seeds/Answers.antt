use Rattle.std.proofs.Common.{◌≡◌, ◌∙◌, ℕ, Some, slice_get, rules, refl, sym, subst, length}
use Rattle.std.proofs.lemmas.Option.{same_Some, slice_get_within, slice_get_read}
use Rattle.claims.specs.declared.claim.Claim.{Claim}
use Rattle.schedule_verdicts.proofs.Every.{below_more}
use Rattle.seed_verdicts.specs.ShownBySeeds.{IsShownBySeeds}
use Rattle.seed_verdicts.proofs.shown_claims.first_unshown_by_seeds.Goals as goal

pub returns-then-not-branch-clause-told : goal.returns-then-not-branch-clause-told
returns-then-not-branch-clause-told g c =
    let claims = c.args.claims.now in
    let claim = c.index-claims-place.result in
    record {
      fair = c.in_ok-fair.fair;
      is_fair = c.in_ok-fair.ensures.is;
      claim = claim;
      there =
          slice_get_read claims (length claims) c.loop-place.place claim refl (search rules) c.index-claims-place.is;
      unshown = c.in_ok-is_shown_by_seeds.ensures.unshown (search rules);
      earlier = c.loop-place.invariant;
    }

pub loop-place-preserved : goal.loop-place-preserved
loop-place-preserved g c =
    let image = c.args.image.now in
    let fair = c.in_ok-fair.fair in
    let claims = c.args.claims.now in
    let place = c.loop-place.place in
    let claim = c.index-claims-place.result in
    let there = slice_get_read claims (length claims) place claim refl (search rules) c.index-claims-place.is in
    let here : IsShownBySeeds image fair c.args.seeds claim = c.in_ok-is_shown_by_seeds.ensures.shown (search rules) in
    below_more (λ k. (d : Claim) → slice_get claims k ≡ Some d → IsShownBySeeds image fair c.args.seeds d) place
    c.loop-place.invariant
    (λ d read. subst (IsShownBySeeds image fair c.args.seeds) (same_Some claim d (sym there ∙ read)) here)

pub returns-clause-told : goal.returns-clause-told
returns-clause-told g c = record {
  fair = c.in_ok-fair.fair;
  is_fair = c.in_ok-fair.ensures.is;
  each = λ k d read.
      let within = slice_get_within c.args.claims.now k d read in
      c.loop-place.invariant k (search rules) d read;
}
