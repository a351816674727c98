-- what the words to come decide
use Rattle.std.proofs.Common.{◌≡◌, length}
use Rattle.expectation_files.specs.Words.{words_of}
use Rattle.expectation_files.specs.LeadsLines.{is_leading}
use Rattle.expectation_files.proofs.leads_lines.is_leading.Given as goal

abbrev pub invariant-loop-word : goal.invariant-loop-word
invariant-loop-word l = is_leading (words_of l.rest) ≡ is_leading (words_of l.text)

abbrev pub decreases-loop-word : goal.decreases-loop-word
decreases-loop-word l = length (words_of l.rest)
