use Rattle.same_futures.proofs.laws.handlers_stay_out.Goals as goal
use Rattle.same_futures.proofs.NoHandlers.{handlers_kept, told_without}

pub returns-clause-stays : goal.returns-clause-stays
returns-clause-stays c image w t without = handlers_kept image without w t

pub returns-clause-told : goal.returns-clause-told
returns-clause-told c = told_without
