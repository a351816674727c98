use Rattle.seed_outcomes.specs.Adding.{same, more}
use Rattle.seed_outcomes.proofs.adding.add_outcomes.Goals as goal

pub loop-outcome-init : goal.loop-outcome-init
loop-outcome-init c = same

pub loop-outcome-preserved : goal.loop-outcome-preserved
loop-outcome-preserved c = more c.loop-outcome.invariant c.in_ok-add_outcome.ensures
