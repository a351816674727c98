-- Each word so far is the same.
use Rattle.std.proofs.Common.{◌≡◌, ℕ, ◌<◌, ◌+◌, ◌*◌, true}
use Rattle.case_cells.specs.SpokenWords.{is_same_word}
use Rattle.case_cells.proofs.line_words.are_same_words.Given as goal

abbrev pub invariant-loop-number : goal.invariant-loop-number
invariant-loop-number l =
    (k : ℕ) → k < l.number → is_same_word l.places (l.given.first + 8 * k) (l.own.first + 8 * k) ≡ true
