use Rattle.schedule_makers.proofs.LastSteps.{none-last}
use Rattle.schedule_makers.proofs.fair_choice.Fair.new.Goals as goal

pub returns : goal.returns
returns c = none-last
