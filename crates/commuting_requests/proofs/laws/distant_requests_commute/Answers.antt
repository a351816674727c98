use Rattle.commuting_requests.proofs.laws.distant_requests_commute.Goals as goal
use Rattle.commuting_requests.proofs.Distances.{do_commute}

pub returns : goal.returns
returns c = do_commute
