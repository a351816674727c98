use Rattle.run_findings.specs.UnreadStores.{unread_at}
use Rattle.run_findings.proofs.Finding.{none-more}
use Rattle.run_findings.proofs.unread.is_any_over_unread.Goals as goal

pub loop-step-preserved : goal.loop-step-preserved
loop-step-preserved c =
    none-more (unread_at c.args.actions.now) c.loop-step.step c.loop-step.invariant
    (c.is_over_unread.ensures c.if-is_over_unread.false)
