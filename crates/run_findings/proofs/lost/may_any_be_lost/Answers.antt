use Rattle.run_findings.specs.LostUpdates.{lost_at}
use Rattle.run_findings.proofs.Finding.{none-more}
use Rattle.run_findings.proofs.lost.may_any_be_lost.Goals as goal

pub loop-step-preserved : goal.loop-step-preserved
loop-step-preserved c =
    none-more (lost_at c.args.actions.now) c.loop-step.step c.loop-step.invariant
    (c.may_be_lost.ensures c.if-may_be_lost.false)
