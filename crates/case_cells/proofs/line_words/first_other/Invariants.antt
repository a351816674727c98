-- No line so far speaks of other words.
use Rattle.std.proofs.Common.{◌≡◌, drop}
use Rattle.case_cells.specs.SpokenWords.{first_other}
use Rattle.case_cells.proofs.line_words.first_other.Given as goal

abbrev pub invariant-loop-words : goal.invariant-loop-words
invariant-loop-words l = record {
  place : l.place ≡ l.words-index;
  rest : first_other l.places l.place (drop l.words-index l.given) l.rest ≡ first_other l.places 0 l.given l.own;
}
