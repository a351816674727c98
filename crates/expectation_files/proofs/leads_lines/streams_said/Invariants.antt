use Rattle.std.proofs.Common.{◌≡◌, [], length}
use Rattle.expectation_files.specs.Words.{words_of}
use Rattle.expectation_files.specs.LeadsLines.{streams_said}
use Rattle.expectation_files.proofs.leads_lines.streams_said.Given as goal

-- what was found, with what the words to come say, is what the text says
abbrev pub invariant-loop-word : goal.invariant-loop-word
invariant-loop-word l = streams_said l.image l.streams.items (words_of l.rest) ≡ streams_said l.image [] (words_of l.text)

abbrev pub decreases-loop-word : goal.decreases-loop-word
decreases-loop-word l = length (words_of l.rest)
