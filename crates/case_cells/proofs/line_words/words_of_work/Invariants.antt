-- The words of the lines so far, and behind them those of the lines that are left.
use Rattle.std.proofs.Common.{◌≡◌, ◌++◌, drop, map}
use Rattle.case_cells.specs.SpokenWords.{spoken_in_work}
use Rattle.case_cells.proofs.line_words.words_of_work.Given as goal

abbrev pub invariant-loop-rule : goal.invariant-loop-rule
invariant-loop-rule l = l.words.items ++ map spoken_in_work (drop l.rule-index l.rules) ≡ map spoken_in_work l.rules
