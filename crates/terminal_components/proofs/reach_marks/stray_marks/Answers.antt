use Rattle.terminal_components.proofs.TerminalMarks.{strays_by}
use Rattle.terminal_components.proofs.reach_marks.stray_marks.Goals as goal

pub returns : goal.returns
returns c =
    strays_by c.args.links.now c.args.least.now c.in_ok-exits.exits.items c.spread_marks.result.items c.in_ok-exits.ensures
    c.spread_marks.ensures
