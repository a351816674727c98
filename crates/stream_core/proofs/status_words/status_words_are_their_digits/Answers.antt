use Rattle.stream_core.proofs.StatusDigits.{status_kept, status_own}
use Rattle.stream_core.proofs.status_words.status_words_are_their_digits.Goals as goal

pub returns-clause-kept : goal.returns-clause-kept
returns-clause-kept c = status_kept

pub returns-clause-masked : goal.returns-clause-masked
returns-clause-masked c = status_own
