use Rattle.std.proofs.Common.{sym, subst, rules}
use Rattle.busy_streams.specs.ScheduleSpace.Spaces.{StandsFor}
use Rattle.schedule_verdicts.specs.ClaimMarks.{MarksValue}
use Rattle.schedule_verdicts.proofs.Marks.{marked, mark_alike}
use Rattle.schedule_verdicts.proofs.claim_marks.ClaimMarks.judge.Goals as goal

pub invariant_of-self : goal.invariant_of-self
invariant_of-self g c =
    let v = c.self.inside.space.now in
    let claim = c.self.inside.claim.now in
    let place = c.args.place in
    let world = c.args.machine.now.world in
    let stands : StandsFor v place world =
    subst (λ (x : MarksValue). StandsFor x.space place world) (sym c.self.view_is) c.requires in
    marked v claim c.self.inside.marks.items place c.mark_of.result (search rules) c.self.invariant
    (mark_alike v place world claim c.mark_of.result stands c.mark_of.ensures)
