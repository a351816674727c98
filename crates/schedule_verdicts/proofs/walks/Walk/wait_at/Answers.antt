use Rattle.std.proofs.Common.{sym, subst}
use Rattle.schedule_verdicts.specs.Walking.{WalkValue, IsVisit, AreVisits}
use Rattle.schedule_verdicts.proofs.LeadingOn.{visit_more}
use Rattle.schedule_verdicts.proofs.walks.Walk.wait_at.Goals as goal

pub invariant_of-self-2 : goal.invariant_of-self-2
invariant_of-self-2 g c =
    let v = c.self.inside.space.now in
    let is : IsVisit v c.args.visit =
    subst (λ (x : WalkValue). IsVisit x.space c.args.visit) (sym c.self.view_is) c.requires in (
      c.self.invariant.0,
      subst (AreVisits v) (sym c.in_ok-push.ensures.items)
          (visit_more v c.self.inside.waiting.items c.args.visit c.self.invariant.1 is),
    )
