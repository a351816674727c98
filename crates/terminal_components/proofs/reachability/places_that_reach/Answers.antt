use Rattle.std.proofs.Common.{rules}
use Rattle.std.specs.Result.{IfOk}
use Rattle.std.proofs.lemmas.Result.{IfOk-weaker}
use Rattle.terminal_components.specs.Reachability.{AreBackwardReachable}
use Rattle.terminal_components.specs.ReachMarks.{AreMarkBits}
use Rattle.terminal_components.proofs.BackwardReach.{leading_by}
use Rattle.terminal_components.proofs.reachability.places_that_reach.Goals as goal

pub returns : goal.returns
returns c =
    let links = c.args.links.now in
    let marks = c.in_ok-marks.marks.items in
    let new = c.spread_marks.result.items in
    let read : IfOk c.mark_bits.result (λ v. AreMarkBits new v.items) = search rules in
    IfOk-weaker c.mark_bits.result (λ v. AreMarkBits new v.items)
    (λ v. AreBackwardReachable c.args.count links c.args.goals.now v.items)
    (λ v is. leading_by c.args.count links c.args.goals.now marks new v.items c.in_ok-marks.ensures c.spread_marks.ensures is)
    read
