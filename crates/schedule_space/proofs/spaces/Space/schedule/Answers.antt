use Rattle.schedule_space.specs.Finding.{space_of}
use Rattle.schedule_space.proofs.Kept.{route_there}
use Rattle.schedule_space.proofs.spaces.Space.schedule.Goals as goal

pub schedule_by-requires : goal.schedule_by-requires
schedule_by-requires c =
    let w = space_of c.self.inside.image.now c.self.inside.live c.self.inside.begin.items c.self.inside.links.items c.self.inside.edges.items in
    let r = c.route_to.result in
    let at = c.route_to.ensures in
    route_there w c.args.self.now r.links.now r.place c.args.place c.self.view_is c.self.invariant.earlier at.links at.place
    c.requires
