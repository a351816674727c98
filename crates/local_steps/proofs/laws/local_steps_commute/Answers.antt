use Rattle.local_steps.proofs.laws.local_steps_commute.Goals as goal
use Rattle.local_steps.proofs.Orders.{runs, not_stuck}

-- src/laws.rt:13:1
pub returns-clause-runs : goal.returns-clause-runs
returns-clause-runs c = runs

-- src/laws.rt:13:1
pub returns-clause-goes_on : goal.returns-clause-goes_on
returns-clause-goes_on c = not_stuck
