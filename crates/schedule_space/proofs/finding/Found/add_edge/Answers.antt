use Rattle.std.proofs.Common.{rules}
use Rattle.schedule_space.proofs.Placing.{edge_put}
use Rattle.schedule_space.proofs.finding.Found.add_edge.Goals as goal

pub invariant_of-self-2 : goal.invariant_of-self-2
invariant_of-self-2 c = record {
  found =
      edge_put c.self.inside.image.now c.self.inside.live c.self.inside.begin.items c.self.inside.links.items c.self.inside.edges.items c.push.new.self.items
      c.args.self.now c.args.edge c.self.inside.fates.items c.self.inside.seen.contents c.self.inside.keys c.self.invariant.found
      c.self.view_is (search rules) c.requires.edge c.requires.new;
  left = c.self.invariant.left;
}
