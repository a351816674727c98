use Rattle.std.proofs.Common.{rules, inr, sym, subst}
use Rattle.std.specs.Prelude.{IsTrue}
use Rattle.claims.specs.Holding.{shows}
use Rattle.schedule_verdicts.proofs.Each.{begun}
use Rattle.schedule_verdicts.proofs.shown_claims.is_shown.Goals as goal

pub returns-then-branch-2-clause-shown : goal.returns-then-branch-2-clause-shown
returns-then-branch-2-clause-shown g c = λ yes.
    let on = begun c.args.space.now c.len-place-end.ensures.links c.loop-place.place (search rules) in
    inr (on.0, subst (λ w. IsTrue (shows w c.args.marks.now.claim)) (sym on.1) (search rules))
