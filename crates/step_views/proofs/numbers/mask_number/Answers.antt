use Rattle.std.proofs.Common.{rules}
use Rattle.stream_core.specs.StatusWords.{codes_number, status_number}
use Rattle.step_views.proofs.numbers.mask_number.Goals as goal

pub returns : goal.returns
unfolding codes_number status_number
returns c = search rules
