use Rattle.std.proofs.Common.{◌≡◌, ◌≤◌, refl, sym, ap, ◌∙◌, subst, arith, ⊎_elim, inr, Some}
use Rattle.std.specs.Prelude.{slice_get}
use Rattle.std.proofs.lemmas.Bool.{cases_lt}
use Rattle.std.proofs.lemmas.Option.{same_Some, slice_get_read, slice_get_within}
use Rattle.end_kinds.specs.Statuses.{badness}
use Rattle.end_kinds.specs.declared.statuses.Status.{Status}
use Rattle.seed_outcomes.specs.Outcomes.{IsOfSome, status_of_outcome}
use Rattle.seed_outcomes.specs.declared.outcomes.SeedOutcome.{SeedOutcome}
use Rattle.seed_outcomes.proofs.statuses.worst_status.Goals as goal

pub loop-outcome-preserved : goal.loop-outcome-preserved
loop-outcome-preserved c =
    let outcomes = c.args.outcomes.now in
    let index = c.loop-outcome.outcome-index in
    let here = c.outcome-item.result in
    let worst = c.worse-status.result in
    let at : slice_get outcomes index ≡ Some here =
    slice_get_read outcomes _ index here refl c.loop-outcome-test.true c.outcome-item.is in
    let first = c.worse-status.ensures.first in
    let second : badness (status_of_outcome here) ≤ badness worst =
    subst (λ (s : Status). badness s ≤ badness worst) c.status.ensures c.worse-status.ensures.second in
    record {
      some =
          ⊎_elim (λ same. subst (λ (s : Status). IsOfSome outcomes s) (sym same) c.loop-outcome.invariant.some)
          (λ other. inr (index, here, at, other ∙ c.status.ensures)) c.worse-status.ensures.one;
      each = λ k o below there.
          ⊎_elim (λ less. let known = c.loop-outcome.invariant.each k o less there in omega (arith, known, first))
          (λ most.
          let same : k ≡ index = omega arith in
          let is : here ≡ o = same_Some here o (sym at ∙ ap (slice_get outcomes) (sym same) ∙ there) in
          subst (λ (x : SeedOutcome). badness (status_of_outcome x) ≤ badness worst) is second)
          (cases_lt k index);
    }

pub returns-clause-each : goal.returns-clause-each
returns-clause-each c = λ k o there.
    let within = slice_get_within c.args.outcomes.now k o there in
    let past = c.loop-outcome-test.false in
    c.loop-outcome.invariant.each k o (omega (arith, within, past)) there
