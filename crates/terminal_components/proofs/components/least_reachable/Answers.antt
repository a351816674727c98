use Rattle.terminal_components.proofs.TerminalMarks.{least_of}
use Rattle.terminal_components.proofs.components.least_reachable.Goals as goal

pub returns : goal.returns
returns c =
    least_of c.args.count c.args.links.now c.in_ok-places.places.items c.lowest_of.result.items
    c.in_ok-places.ensures c.lowest_of.ensures.lowest
