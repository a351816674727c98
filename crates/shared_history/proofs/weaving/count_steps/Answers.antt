use Rattle.std.proofs.Common.{ap, arith, ◌≡◌, length}
use Rattle.shared_history.proofs.Room.{count_more}
use Rattle.shared_history.proofs.weaving.count_steps.Goals as goal

pub loop-record-preserved : goal.loop-record-preserved
loop-record-preserved g c =
    let more = count_more c.args.records.now c.loop-record.record-index c.record-item.result c.loop-record-test.true
    c.record-item.is in
    let here : length c.steps.result.now.numbers ≡ length c.record-item.result.steps = ap length c.steps.ensures in
    omega (arith, more, here, c.loop-record.invariant, c.saturating_add-count.ensures, c.len.ensures)
