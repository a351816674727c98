use Rattle.commuting_requests.proofs.laws.unchanging_requests_commute.Goals as goal
use Rattle.commuting_requests.proofs.Unchanging.{both_stay, none_commutes, commutes_none}

pub returns-clause-both : goal.returns-clause-both
returns-clause-both c = both_stay

pub returns-clause-none : goal.returns-clause-none
returns-clause-none c = none_commutes

pub returns-clause-other : goal.returns-clause-other
returns-clause-other c = commutes_none
