use Rattle.std.proofs.Common.{◌<◌, ap, sym, ◌∙◌, length, arith, rules}
use Rattle.class_results.proofs.OneCall.{judged_with, judged_without}
use Rattle.class_results.proofs.parts.judged_in.Goals as goal
use Rattle.class_results.proofs.parts.judged_in.Goals.{then-is_judged+in_ok-push, else-is_judged}

pub loop-place-preserved : goal.loop-place-preserved
loop-place-preserved c =
    let part = c.args.part in
    let class = c.args.class.now in
    let place = c.loop-place.place in
    let below : place < length class = first_of (search rules, grind arith) in
    elim c.if-is_judged.branch [
      | then-is_judged+in_ok-push w ↦
          judged_with part class place _ c.loop-place.judged.items _ _ below (sym c.is_judged.ensures ∙ w.if-is_judged.true)
          (ap (λ p. p.items) w.judged-is ∙ w.in_ok-push.ensures.items) c.loop-place.invariant
      | else-is_judged w ↦
          judged_without part class place c.loop-place.judged.items _ _ below
          (sym c.is_judged.ensures ∙ w.if-is_judged.false) (ap (λ p. p.items) w.judged-is) c.loop-place.invariant
    ]
