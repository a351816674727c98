use Rattle.std.proofs.Common.{◌≡◌, length}
use Rattle.expectation_files.specs.Words.{skip_blanks}
use Rattle.expectation_files.proofs.words.without_first_blanks.Given as goal

abbrev pub invariant-loop-rest : goal.invariant-loop-rest
invariant-loop-rest l = skip_blanks l.rest ≡ skip_blanks l.bytes

abbrev pub decreases-loop-rest : goal.decreases-loop-rest
decreases-loop-rest l = length l.rest
