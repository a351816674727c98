use Rattle.std.proofs.Common.{◌≡◌, refl, sym, ap, ◌∙◌, subst, arith, ⊎_elim, Some}
use Rattle.std.specs.Prelude.{slice_get}
use Rattle.std.proofs.lemmas.Bool.{cases_lt}
use Rattle.std.proofs.lemmas.Option.{same_Some, slice_get_read, slice_get_within}
use Rattle.seed_outcomes.specs.Outcomes.{AreOfOneLine}
use Rattle.seed_outcomes.specs.declared.outcomes.SeedOutcome.{SeedOutcome}
use Rattle.seed_outcomes.proofs.adding.place_of_line.Goals as goal

pub returns-then-are_of_one_line-clause-known : goal.returns-then-are_of_one_line-clause-known
returns-then-are_of_one_line-clause-known c =
    let here = c.index-outcomes-place.result in (
      here,
      slice_get_read c.args.outcomes.now _ c.loop-place.place here refl c.loop-place-test.true c.index-outcomes-place.is,
      c.are_of_one_line.ensures.0 c.if-are_of_one_line.true,
    )

pub loop-place-preserved : goal.loop-place-preserved
loop-place-preserved c = λ k o below there line.
    let outcomes = c.args.outcomes.now in
    let place = c.loop-place.place in
    let here = c.index-outcomes-place.result in
    let at : slice_get outcomes place ≡ Some here =
    slice_get_read outcomes _ place here refl c.loop-place-test.true c.index-outcomes-place.is in
    ⊎_elim (λ less. c.loop-place.invariant k o less there line)
    (λ most.
    let same : k ≡ place = omega arith in
    let is : here ≡ o = same_Some here o (sym at ∙ ap (slice_get outcomes) (sym same) ∙ there) in
    let yes = c.are_of_one_line.ensures.1 (subst (λ (x : SeedOutcome). AreOfOneLine x c.args.other.now) (sym is) line) in
    let no = c.if-are_of_one_line.false in
    cc)
    (cases_lt k place)

pub returns-clause-new : goal.returns-clause-new
returns-clause-new c = λ e k o there line.
    let within = slice_get_within c.args.outcomes.now k o there in
    let past = c.loop-place-test.false in
    c.loop-place.invariant k o (omega (arith, within, past)) there line
