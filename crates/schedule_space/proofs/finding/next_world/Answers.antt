use Rattle.std.proofs.Common.{◌≡◌, ◌∙◌, sym, ap, subst, Some}
use Rattle.machine.specs.MachineValue.{MachineValue}
use Rattle.schedule_space.specs.Spaces.{machine_by}
use Rattle.schedule_space.specs.Fates.{IsFate}
use Rattle.schedule_space.specs.Kept.{KeptValue}
use Rattle.schedule_space.proofs.finding.next_world.Goals as goal

pub returns-clause-fate : goal.returns-clause-fate
returns-clause-fate g c =
    let r = c.args.route in
    let m = machine_by c.args.machines.now.first.image r.begin.now r.links.now r.place in
    let some : c.make_here.new.self.here ≡ Some m = ap (λ (x : KeptValue). x.here) c.in_ok-make_here.ensures.made in
    let is = c.in_ok-machine.ensures.next m some in
    subst (λ (x : MachineValue). IsFate x.image x.world c.fate_of.result) is c.fate_of.ensures

pub returns-clause-machine : goal.returns-clause-machine
returns-clause-machine g c = λ n is_some.
    let r = c.args.route in
    let m = machine_by c.args.machines.now.first.image r.begin.now r.links.now r.place in
    let some : c.make_here.new.self.here ≡ Some m = ap (λ (x : KeptValue). x.here) c.in_ok-make_here.ensures.made in
    let is = c.in_ok-machine.ensures.next m some in
    let same : c.in_ok-machine.machine ≡ n = cc in
    sym same ∙ is

pub returns-in-Some-clause-machine : goal.returns-in-Some-clause-machine
returns-in-Some-clause-machine g c =
    let r = c.args.route in
    c.hand_on-machine.ensures.next (machine_by c.args.machines.now.first.image r.begin.now r.links.now r.place) c.requires.here
