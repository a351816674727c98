use Rattle.std.proofs.Common.{◌≡◌, None, subst}
use Rattle.space_ends.specs.ScheduleVerdicts.ShownClaims.{AreShown, TellsOfClaims}
use Rattle.program_searches.proofs.searches.unshown_in.Goals as goal

pub returns-in-Ok-clause-only : goal.returns-in-Ok-clause-only
returns-in-Ok-clause-only g c =
    let v = c.args.space.now in
    subst (λ claims. TellsOfClaims v claims → AreShown v.image v.begin claims → c.in-Ok.unshown ≡ None)
    c.claims.ensures c.in-Ok.ensures.only
