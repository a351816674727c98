use Rattle.std.proofs.Common.{sym, subst, List}
use Rattle.expectations.specs.declared.expectation.Expectation.{Expectation}
use Rattle.claims.specs.declared.claim.Claim.{Claim}
use Rattle.space_ends.specs.ScheduleVerdicts.NamedRegisters.{AreNamed}
use Rattle.space_ends.specs.ScheduleVerdicts.RightSpaces.{IsFollowedForClaims, IsRightOnEachWay}
use Rattle.program_searches.proofs.searches.are_all_right.Goals as goal

pub returns-in-Ok-clause-shown : goal.returns-in-Ok-clause-shown
returns-in-Ok-clause-shown g c = λ yes named shown.
    let v = c.args.space.now in
    let expected = c.ends.result.now in
    let right =
    c.in-Ok.ensures.shown yes
    (subst (λ (es : List Expectation). AreNamed es v.live.names) (sym c.ends.ensures) named)
    (subst (IsFollowedForClaims v) (sym c.claims.ensures) shown) in
    subst (λ (es : List Expectation). IsRightOnEachWay v.image v.begin es c.args.required.now.claims.items) c.ends.ensures
    (subst (λ (cs : List Claim). IsRightOnEachWay v.image v.begin expected cs) c.claims.ensures right)
