use Rattle.whole_runs.specs.RunActions.{actions_of}
use Rattle.whole_runs.proofs.ActionLists.{actions_end}
use Rattle.whole_runs.proofs.actions.run_actions.Goals as goal

pub returns-clause-actions : goal.returns-clause-actions
returns-clause-actions g c =
    actions_end c.loop-step.machine c.args.schedule.now c.loop-step.step-index c.loop-step.actions.items
    (actions_of c.args.machine.now.image c.args.machine.now.world c.args.schedule.now) c.loop-step-test.false
    c.loop-step.invariant.actions
