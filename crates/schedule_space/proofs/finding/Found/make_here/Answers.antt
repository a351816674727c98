use Rattle.std.proofs.Common.{◌∙◌, sym, ap, subst, arith}
use Rattle.machine.specs.MachineValue.{MachineValue}
use Rattle.schedule_space.specs.Spaces.{SpaceValue, machine_by}
use Rattle.schedule_space.specs.Finding.{space_of}
use Rattle.schedule_space.specs.Kept.{IsAtHand}
use Rattle.schedule_space.proofs.Kept.{by_route, first_by, route_there, made_at, made_here}
use Rattle.schedule_space.proofs.finding.Found.make_here.Goals as goal

pub make_here-requires : goal.make_here-requires
make_here-requires g c =
    let w = space_of c.self.inside.image.now c.self.inside.live c.self.inside.begin.items c.self.inside.links.items c.self.inside.edges.items in
    let v = c.args.self.now in
    let r = c.route_to-route.result in
    let at = c.route_to-route.ensures in
    let is = by_route v w c.args.machines.now c.args.place r.begin.now r.links.now r.place c.self.view_is c.requires.machines.kept at.begin at.links at.place in (
      omega arith,
      (
        route_there w v r.links.now r.place c.args.place c.self.view_is c.self.invariant.found.space.earlier at.links at.place c.requires.there,
        (
          first_by v c.args.machines.now r.begin.now c.requires.machines.kept (at.begin ∙ ap (λ (x : SpaceValue). x.begin) c.self.view_is),
          subst (λ (m : MachineValue). IsAtHand m c.args.machines.now.here) (sym is) c.requires.machines.here,
        ),
      ),
    )

pub returns-clause-machines : goal.returns-clause-machines
returns-clause-machines g c =
    let w = space_of c.self.inside.image.now c.self.inside.live c.self.inside.begin.items c.self.inside.links.items c.self.inside.edges.items in
    let v = c.args.self.now in
    let r = c.route_to-route.result in
    let at = c.route_to-route.ensures in
    let is = by_route v w c.args.machines.now c.args.place r.begin.now r.links.now r.place c.self.view_is c.requires.machines.kept at.begin at.links at.place in
    made_at c.make_here.result v c.args.machines.now c.make_here.new.self c.args.place
    (machine_by c.args.machines.now.first.image r.begin.now r.links.now r.place) is c.make_here.ensures.made c.requires.machines

pub returns-clause-made : goal.returns-clause-made
returns-clause-made g c =
    let w = space_of c.self.inside.image.now c.self.inside.live c.self.inside.begin.items c.self.inside.links.items c.self.inside.edges.items in
    let v = c.args.self.now in
    let r = c.route_to-route.result in
    let at = c.route_to-route.ensures in
    let is = by_route v w c.args.machines.now c.args.place r.begin.now r.links.now r.place c.self.view_is c.requires.machines.kept at.begin at.links at.place in
    made_here c.make_here.result v c.args.machines.now c.make_here.new.self c.args.place
    (machine_by c.args.machines.now.first.image r.begin.now r.links.now r.place) is c.make_here.ensures.made
