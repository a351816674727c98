use Rattle.program_searches.proofs.Short.{none_is_shorter, none_is_shorter_listed}
use Rattle.program_searches.proofs.laws.no_schedule_to_it_is_shorter.Goals as goal

pub returns : goal.returns
returns c = record { place = none_is_shorter; listed = none_is_shorter_listed }
