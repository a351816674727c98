use Rattle.std.proofs.Common.{◌≡◌, refl, sym, ap, ◌∙◌, subst, arith, ⊎_elim, Some}
use Rattle.std.specs.Prelude.{slice_get}
use Rattle.std.proofs.lemmas.Bool.{cases_lt}
use Rattle.std.proofs.lemmas.Option.{same_Some, slice_get_read, slice_get_within}
use Rattle.seed_outcomes.specs.declared.outcomes.SeedOutcome.{SeedOutcome}
use Rattle.seed_outcomes.proofs.coverage.is_broken_by_some.Goals as goal

pub returns-then-is_same_place : goal.returns-then-is_same_place
returns-then-is_same_place c =
    let index = c.loop-outcome.outcome-index in
    let here = c.outcome-item.result in (
      λ yes. (
        index,
        here,
        slice_get_read c.args.outcomes.now _ index here refl c.loop-outcome-test.true c.outcome-item.is,
        c.is_same_place.ensures.0 c.if-is_same_place.true,
      ),
      λ some. refl,
    )

pub loop-outcome-preserved : goal.loop-outcome-preserved
loop-outcome-preserved c = λ k o below there breaks.
    let outcomes = c.args.outcomes.now in
    let index = c.loop-outcome.outcome-index in
    let here = c.outcome-item.result in
    let at : slice_get outcomes index ≡ Some here =
    slice_get_read outcomes _ index here refl c.loop-outcome-test.true c.outcome-item.is in
    ⊎_elim (λ less. c.loop-outcome.invariant k o less there breaks)
    (λ most.
    let same : k ≡ index = omega arith in
    let is : here ≡ o = same_Some here o (sym at ∙ ap (slice_get outcomes) (sym same) ∙ there) in
    let yes = c.is_same_place.ensures.1
    (subst (λ (x : SeedOutcome). x.judgement.broken ≡ Some c.args.claim) (sym is) breaks) in
    let no = c.if-is_same_place.false in
    cc)
    (cases_lt k index)

pub returns : goal.returns
returns c = (
  λ e. absurd cc,
  λ some.
      let within = slice_get_within c.args.outcomes.now some.0 some.1 some.2 in
      let past = c.loop-outcome-test.false in
      absurd (c.loop-outcome.invariant some.0 some.1 (omega (arith, within, past)) some.2 some.3),
)
