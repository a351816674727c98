use Rattle.std.proofs.Common.{◌≡◌, [], length}
use Rattle.expectation_files.specs.Words.{words_of}
use Rattle.expectation_files.specs.WorkLines.{writers_said}
use Rattle.expectation_files.proofs.work_lines.writers_said.Given as goal

-- what was found, with what the words to come say, is what the text says
abbrev pub invariant-loop-word : goal.invariant-loop-word
invariant-loop-word l = writers_said l.streams.items (words_of l.rest) ≡ writers_said [] (words_of l.text)

abbrev pub decreases-loop-word : goal.decreases-loop-word
decreases-loop-word l = length (words_of l.rest)
