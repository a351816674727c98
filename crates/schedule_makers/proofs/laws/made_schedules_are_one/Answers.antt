use Rattle.schedule_makers.proofs.OneMade.{one_made}
use Rattle.schedule_makers.proofs.laws.made_schedules_are_one.Goals as goal

pub returns : goal.returns
returns c = one_made
