use Rattle.local_steps.proofs.laws.ending_steps_commute.Goals as goal
use Rattle.local_steps.proofs.Ending.{commutes_ending, stays_ending_step, runs_ending, not_stuck_ending}
use Rattle.local_steps.proofs.Settled.{settled_ends}

pub returns-clause-commutes : goal.returns-clause-commutes
returns-clause-commutes c = commutes_ending

pub returns-clause-stays : goal.returns-clause-stays
returns-clause-stays c = stays_ending_step

pub returns-clause-runs : goal.returns-clause-runs
returns-clause-runs c = runs_ending

pub returns-clause-goes_on : goal.returns-clause-goes_on
returns-clause-goes_on c = not_stuck_ending

pub returns-clause-settled : goal.returns-clause-settled
returns-clause-settled c = settled_ends
