use Rattle.std.proofs.Common.{◌∙◌, ap, arith, sym}
use Rattle.processor.specs.Records.{StepsValue}
use Rattle.processor.proofs.Keeping.{keeps-local, asks_nothing}
use Rattle.processor.proofs.recorded.Recorded.finish_local.Goals as goal

pub invariant_of-self : goal.invariant_of-self
invariant_of-self g c =
    let old = c.self.invariant in
    let a = c.self.inside in
    let f = c.finish_local-outcome in
    let p = c.push.ensures in
    let asks = asks_nothing _ _ c.args.s c.args.step.now c.self.view_is c.requires.step c.requires.local in
    let k = keeps-local a.image.now a.number a.steps.numbers c.push.new.self.numbers a.pairs.items a.places.items
    a.processor f.new.self c.args.s f.result (record { own = old.0; placed = old.1 }) asks f.ensures.row
    (ap (λ (x : StepsValue). x.numbers) p) in
    let spare = ap (λ (x : StepsValue). x.spare) p in
    (k.own, k.placed, old.2 ∙ sym f.ensures.others.as_many, omega (arith, spare, old.3), omega (arith, spare, old.4))
