-- The words of the lines so far, and behind them those of the lines that are left.
use Rattle.std.proofs.Common.{◌≡◌, ◌++◌, drop, map}
use Rattle.case_cells.specs.SpokenWords.{spoken_at_end}
use Rattle.case_cells.proofs.line_words.words_of_ends.Given as goal

abbrev pub invariant-loop-end : goal.invariant-loop-end
invariant-loop-end l = l.words.items ++ map spoken_at_end (drop l.end-index l.ends) ≡ map spoken_at_end l.ends
