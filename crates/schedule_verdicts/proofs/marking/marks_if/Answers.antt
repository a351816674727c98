use Rattle.std.proofs.Common.{◌≡◌, rules, map, sym, subst}
use Rattle.schedule_verdicts.specs.ClaimMarks.{marks_for, AreOfSpace}
use Rattle.schedule_verdicts.proofs.Marks.{of_space}
use Rattle.schedule_verdicts.proofs.marking.marks_if.Goals as goal

pub mark_all-requires : goal.mark_all-requires
mark_all-requires g c =
    let v = c.args.space.now in
    let claims = c.args.claims.now in
    let is : c.deref_mut.result.now ≡ map (marks_for v) claims = search rules in
    subst (AreOfSpace v) (sym is) (of_space v claims)
