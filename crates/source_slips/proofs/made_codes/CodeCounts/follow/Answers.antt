use Rattle.source_slips.proofs.LeastTables.{straight_allowed, leaves_any, leaves_unset, aims_named}
use Rattle.source_slips.proofs.made_codes.CodeCounts.follow.Goals as goal

pub returns : goal.returns
returns c t a below leads =
    let k = c.args.place in
    let n = c.args.before in
    let i = c.args.insn.now in
    let count = c.kept_after_insn-count.result in
    let is = c.kept_after_insn-count.ensures in
    c.aim_if.ensures t a
    (c.leave_if.ensures t a
    (c.come_if-2.ensures t a
    (c.come_if.ensures t a below (straight_allowed t a k n i c.next_place.result count leads is c.next_place.ensures))
    (straight_allowed t a k n i c.skip_target.result count leads is c.skip_target.ensures))
    (leaves_any t a k n i c.leaves_with.result count leads is c.leaves_with.ensures)
    (leaves_unset t a k n i c.leaves_with.result count leads is c.leaves_with.ensures))
    (aims_named t a k n i c.aimed_place.result leads c.aimed_place.ensures)
