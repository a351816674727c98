-- The cells so far, and behind them those of the words that are left, are all cells.
use Rattle.std.proofs.Common.{◌≡◌, ◌++◌, drop}
use Rattle.case_cells.specs.NamedWords.{cells_by_name}
use Rattle.case_cells.proofs.given_cells.cells_by_name.Given as goal

abbrev pub invariant-loop-word : goal.invariant-loop-word
invariant-loop-word l =
    l.cells.items ++ cells_by_name l.places l.given l.word (drop l.word l.own)
    ≡ cells_by_name l.places l.given 0 l.own
