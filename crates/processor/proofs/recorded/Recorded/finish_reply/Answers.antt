use Rattle.std.proofs.Common.{◌∙◌, ap, arith, sym}
use Rattle.processor.specs.Records.{StepsValue, RecordValue}
use Rattle.processor.proofs.Keeping.{keeps-ask, asks_this}
use Rattle.processor.proofs.recorded.Recorded.finish_reply.Goals as goal

pub invariant_of-self : goal.invariant_of-self
invariant_of-self g c =
    let old = c.self.invariant in
    let a = c.self.inside in
    let f = c.finish_reply-outcome in
    let p = c.push.ensures in
    let w = c.push_reserved.ensures in
    let v = c.push_reserved-2.ensures in
    let q = c.args.request.now in
    let asks = asks_this _ _ c.args.s c.args.step.now q c.self.view_is c.requires.step c.requires.asks in
    let k = keeps-ask a.image.now a.number a.steps.numbers c.push.new.self.numbers a.pairs.items
    c.push_reserved-2.new.self.items a.places.items c.push_reserved.new.self.items a.processor f.new.self c.args.s q
    c.args.reply f.result c.len-place.result (record { own = old.0; placed = old.1 }) asks f.ensures.row
    (ap (λ (x : StepsValue). x.numbers) p) v.items c.len-place.ensures w.items in
    let spare = ap (λ (x : StepsValue). x.spare) p in
    let room = ap (λ (x : RecordValue). x.spare) c.self.view_is in
    let some = c.requires.room in (
      k.own,
      k.placed,
      old.2 ∙ sym f.ensures.others.as_many,
      omega (arith, spare, room, some, old.3, v.len, v.capacity),
      omega (arith, spare, room, some, old.4, w.len, w.capacity),
    )
