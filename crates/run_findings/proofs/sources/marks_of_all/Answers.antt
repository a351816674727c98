use Rattle.std.proofs.Common.{◌≡◌, ◌+◌, length, sym, subst, arith}
use Rattle.run_findings.specs.Sources.{AreAll}
use Rattle.run_findings.proofs.AllMarks.{all_first, all_more}
use Rattle.run_findings.proofs.sources.marks_of_all.Goals as goal

pub loop-step-init : goal.loop-step-init
loop-step-init c = all_first c.args.actions.now c.new-any.result.items c.new-any.ensures.items

pub loop-step-preserved : goal.loop-step-preserved
loop-step-preserved c =
    let ds = c.args.actions.now in
    let step = c.loop-step.step in
    subst (AreAll ds (step + 1)) (sym c.in_ok-push.ensures.items)
    (all_more ds step (step + 1) c.loop-step.any.items c.marks_at-marks.result (omega arith) c.loop-step.invariant
    c.marks_at-marks.ensures)

pub returns : goal.returns
returns c =
    let all : c.loop-step.step ≡ length c.args.actions.now = omega arith in
    subst (λ n. AreAll c.args.actions.now n c.loop-step.any.items) all c.loop-step.invariant
