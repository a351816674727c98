use Rattle.std.proofs.Common.{List, subst}
use Rattle.endless_waits.specs.RunAnswersTypes.Rest.{Rest}
use Rattle.endless_waits.specs.RunAnswersTypes.RunCondition.{RunCondition}
use Rattle.endless_waits.specs.Kept.{IsSoOfKept}
use Rattle.program_searches.proofs.kept.kept_in.Goals as goal

pub returns-clause-so : goal.returns-clause-so
returns-clause-so c = λ has.
    let v = c.args.space.now in
    let l = c.in_ok-kept_conditions.field-0 in
    subst (λ (rests : List Rest). IsSoOfKept v.image v.begin rests c.args.required.now.run_conditions.items l) c.rests.ensures
    (subst (λ (asked : List RunCondition). IsSoOfKept v.image v.begin c.rests.result.now asked l) c.run_conditions-2.ensures
    (record {
      tells = c.in_ok-kept_conditions.ensures.tells has;
      all = c.in_ok-kept_conditions.ensures.all has;
    }))
