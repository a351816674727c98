use Rattle.std.proofs.Common.{◌≡◌, ◌∙◌, ap, rules, Some, reverse}
use Rattle.schedule_space.specs.Spaces.{machine_by}
use Rattle.schedule_space.specs.Kept.{KeptValue}
use Rattle.schedule_space.proofs.Kept.{made_by}
use Rattle.schedule_space.proofs.kept_machines.KeptMachines.make_here.Goals as goal

pub returns-clause-made : goal.returns-clause-made
returns-clause-made g c =
    let r = c.args.route in
    let first : c.self.inside.first ≡ c.args.self.now.first = ap (λ (x : KeptValue). x.first) c.self.view_is in
    let made : c.run.new.self ≡ machine_by c.args.self.now.first.image r.begin.now r.links.now r.place =
    made_by c.args.self.now.first c.in_ok-machine.machine c.run.new.self r.begin.now (reverse c.in_ok-steps.steps.items) r.links.now
    r.place c.requires.first (c.in_ok-machine.ensures ∙ first) (search rules) c.in_ok-steps.ensures in
    λ i. record {
      first = first i;
      here = Some (made i);
      places = (c.self.view_is i).places;
      waiting = (c.self.view_is i).waiting;
    }
