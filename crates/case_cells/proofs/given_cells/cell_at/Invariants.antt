-- None of the places so far has the word.
use Rattle.std.proofs.Common.{◌≡◌, drop}
use Rattle.std.specs.Prelude.{find}
use Rattle.case_cells.specs.NamedWords.{has_word}
use Rattle.case_cells.proofs.given_cells.cell_at.Given as goal

abbrev pub invariant-loop-place : goal.invariant-loop-place
invariant-loop-place l = find (has_word l.word) (drop l.place-index l.places) ≡ find (has_word l.word) l.places
