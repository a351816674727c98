-- By the law of printed digits.
use Rattle.listing_line.proofs.Directives.{profile-lines, profile-tells, slim-lines, chain-lines, retry-lines}
use Rattle.listing_line.proofs.Directives.{trap-lines, entry-lines, fill-lines}
use Rattle.listing_line.proofs.laws.listed_directives_are_read_back.Goals as goal

pub returns-clause-profile : goal.returns-clause-profile
returns-clause-profile c = profile-lines

pub returns-clause-tells : goal.returns-clause-tells
returns-clause-tells c = profile-tells

pub returns-clause-slim : goal.returns-clause-slim
returns-clause-slim c = slim-lines

pub returns-clause-chain : goal.returns-clause-chain
returns-clause-chain c = chain-lines

pub returns-clause-retry : goal.returns-clause-retry
returns-clause-retry c = retry-lines

pub returns-clause-trap : goal.returns-clause-trap
returns-clause-trap c = trap-lines

pub returns-clause-entry : goal.returns-clause-entry
returns-clause-entry c = entry-lines

pub returns-clause-fill : goal.returns-clause-fill
returns-clause-fill c = fill-lines c.printed_digits_read_back.ensures.reads_back
