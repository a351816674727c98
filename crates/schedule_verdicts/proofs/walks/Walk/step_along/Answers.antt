use Rattle.std.proofs.Common.{◌≡◌, rules}
use Rattle.schedule_verdicts.specs.Walking.{WalkValue, machine_next}
use Rattle.schedule_verdicts.proofs.LeadingOn.{step_at}
use Rattle.schedule_verdicts.proofs.walks.Walk.step_along.Goals as goal

pub invariant_of-self : goal.invariant_of-self
invariant_of-self g c =
    let w : WalkValue = record {
      space = c.self.inside.space.now;
      place = c.self.inside.place;
      machine = c.self.inside.machine;
    } in
    let is : c.step.new.self ≡ machine_next w.machine c.args.way.step = search rules in (
      step_at w c.args.self.now c.args.way c.step.new.self c.self.view_is c.requires c.self.invariant.0 is,
      c.self.invariant.1,
    )
