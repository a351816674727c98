use Rattle.terminal_components.proofs.TerminalMarks.{spread_by}
use Rattle.terminal_components.proofs.reach_marks.spread_marks.Goals as goal

pub returns : goal.returns
returns c = spread_by c.args.links.now c.args.marks.items c.lowest_of.result.items c.lowest_of.ensures.lowest
