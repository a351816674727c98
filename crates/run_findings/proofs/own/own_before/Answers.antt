use Rattle.run_findings.proofs.OwnSteps.{own_if_below}
use Rattle.run_findings.proofs.own.own_before.Goals as goal

pub returns-clause-below : goal.returns-clause-below
returns-clause-below c = own_if_below c.args.actions.now c.args.step _ (c.requires.own.is c.args.step _ c.requires.step_in)
