use Rattle.std.proofs.Common.{rules}
use Rattle.terminal_components.specs.ReachMarks.{AreSpreadMarks}
use Rattle.terminal_components.proofs.TerminalMarks.{held_by}
use Rattle.terminal_components.proofs.reach_marks.member_marks.Goals as goal

pub returns : goal.returns
returns c =
    let spread : AreSpreadMarks c.in_ok-back.back.items c.in_ok-roots.roots.items c.spread_marks.result.items = search rules in
    held_by c.args.links.now c.in_ok-back.back.items c.args.least.now c.args.strays.now c.in_ok-roots.roots.items
    c.spread_marks.result.items c.in_ok-back.ensures c.in_ok-roots.ensures spread
