use Rattle.std.proofs.Common.{rules}
use Rattle.schedule_space.specs.Finding.{space_of}
use Rattle.schedule_space.proofs.Parts.{fate_at}
use Rattle.schedule_space.proofs.spaces.Space.fate.Goals as goal

pub returns : goal.returns
returns c =
    fate_at (space_of c.self.inside.image.now c.self.inside.live c.self.inside.begin.items c.self.inside.links.items c.self.inside.edges.items) c.args.self.now
    c.self.inside.fates.items c.args.place c.index.result.now c.self.invariant c.self.view_is c.requires
    (search rules)
