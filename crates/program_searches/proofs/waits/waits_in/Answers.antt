use Rattle.std.proofs.Common.{List, subst}
use Rattle.endless_waits.specs.RunAnswersTypes.Rest.{Rest}
use Rattle.endless_waits.specs.Waits.{IsSoOfWaits}
use Rattle.program_searches.proofs.waits.waits_in.Goals as goal

pub returns-clause-so : goal.returns-clause-so
returns-clause-so c = λ has.
    let v = c.args.space.now in
    subst (λ (rests : List Rest). IsSoOfWaits v.image v.begin rests c.in_ok-endless_waits.field-0) c.rests.ensures
    (record {
      tells = c.in_ok-endless_waits.ensures.tells has;
      nobody = c.in_ok-endless_waits.ensures.nobody has;
      only = c.in_ok-endless_waits.ensures.only has;
    })
