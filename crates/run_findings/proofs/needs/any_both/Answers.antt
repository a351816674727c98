use Rattle.std.proofs.Common.{◌+◌, ◌∙◌, ap, arith, false, ◌&&◌, get_or}
use Rattle.run_findings.proofs.Needed.{both_past, both_found}
use Rattle.run_findings.proofs.needs.any_both.Goals.{else-one-place-via-then-one-place+else-other-place, else-one-place-via-else-one-place}
use Rattle.run_findings.proofs.needs.any_both.Goals as goal

pub loop-place-preserved : goal.loop-place-preserved
loop-place-preserved c =
    let xs = c.args.one.now in
    let ys = c.args.other.now in
    let k = c.loop-place.place in
    elim c.else-one-place.branch [
      | else-one-place-via-then-one-place+else-other-place w ↦ both_past xs ys k (k + 1) (omega arith) c.loop-place-test.true
          c.requires (ap (λ t. t && get_or ys k false) w.if-one-place.true ∙ w.if-other-place.false) c.loop-place.invariant
      | else-one-place-via-else-one-place w ↦ both_past xs ys k (k + 1) (omega arith) c.loop-place-test.true c.requires
          (ap (λ t. t && get_or ys k false) w.if-one-place.false) c.loop-place.invariant
    ]

pub returns-then-other-place : goal.returns-then-other-place
returns-then-other-place c =
    let xs = c.args.one.now in
    let ys = c.args.other.now in
    let k = c.loop-place.place in
    both_found xs ys k c.loop-place-test.true c.requires
    (ap (λ t. t && get_or ys k false) c.if-one-place.true ∙ c.if-other-place.true) c.loop-place.invariant
