use Rattle.std.proofs.Common.{◌≡◌, [], length}
use Rattle.expectation_files.specs.Words.{words_of}
use Rattle.expectation_files.specs.RuleLines.{operations_from}
use Rattle.expectation_files.proofs.rule_lines.operations_of.Given as goal

-- what was found, with what the words to come say, is what the text says
abbrev pub invariant-loop-word : goal.invariant-loop-word
invariant-loop-word l =
    operations_from l.verb l.rules.items (words_of l.rest) ≡ operations_from l.verb [] (words_of l.text)

abbrev pub decreases-loop-word : goal.decreases-loop-word
decreases-loop-word l = length (words_of l.rest)
