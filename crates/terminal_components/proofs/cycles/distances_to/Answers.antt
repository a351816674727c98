use Rattle.terminal_components.proofs.Distances.{distances_by, near_without}
use Rattle.terminal_components.specs.Values.{AreNear}
use Rattle.std.proofs.Common.{subst, sym, arith}
use Rattle.terminal_components.proofs.cycles.distances_to.Goals as goal

pub returns : goal.returns
returns c =
    let start = c.in_ok-start.start.items in
    let is = c.in_ok-start.ensures.items in
    distances_by c.args.count c.args.links.now c.args.place start c.lowest_of.result.items is c.in_ok-start.ensures.few
    c.lowest_of.ensures.lowest (c.lowest_of.ensures.near (omega arith) (subst AreNear (sym is) (near_without c.args.count c.args.place)))
