use Rattle.run_findings.specs.TornReads.{glimpse_at}
use Rattle.run_findings.proofs.Finding.{none-more}
use Rattle.run_findings.proofs.torn.is_any_glimpse.Goals as goal

pub loop-step-preserved : goal.loop-step-preserved
loop-step-preserved c =
    none-more (glimpse_at c.args.actions.now) c.loop-step.step c.loop-step.invariant
    (c.sees_change.ensures c.if-sees_change.false)
