use Rattle.shared_history.proofs.NewParts.{new-record, new-more}
use Rattle.shared_history.proofs.parts.Parts.new.Goals as goal

pub loop-number-preserved : goal.loop-number-preserved
loop-number-preserved g c =
    new-more c.args.image.now c.args.fuel c.loop-number.number c.loop-number.records.items c.push.new.self.items
    c.reserve.new.self c.loop-number.invariant
    (new-record c.args.image.now c.loop-number.number c.args.fuel _ c.in_ok-record.record c.reserve.new.self
    c.in_ok-record.ensures c.in_ok-reserve.ensures.ok)
    c.in_ok-push.ensures.items
