use Rattle.whole_runs.proofs.ViewLists.{leads_end}
use Rattle.whole_runs.proofs.views.run_views.Goals as goal

pub returns-clause-views : goal.returns-clause-views
returns-clause-views g c =
    leads_end c.args.machine.now c.loop-step.machine c.args.schedule.now c.loop-step.step-index c.loop-step.views.items
    c.loop-step-test.false c.loop-step.invariant.views
