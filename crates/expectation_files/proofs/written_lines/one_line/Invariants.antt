use Rattle.std.proofs.Common.{◌≡◌, ◌++◌, length, string_bytes}
use Rattle.expectation_files.specs.Words.{words_of, in_one_line}
use Rattle.expectation_files.proofs.OneLine.{spaced}
use Rattle.expectation_files.proofs.written_lines.one_line.Given as goal

-- what is written, with the words to come, is the line
abbrev pub invariant-loop-word : goal.invariant-loop-word
invariant-loop-word l = string_bytes l.words ++ spaced (words_of l.rest) ≡ in_one_line (words_of l.text)

abbrev pub decreases-loop-word : goal.decreases-loop-word
decreases-loop-word l = length (words_of l.rest)
