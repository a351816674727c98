-- None of the changes so far turned the word.
use Rattle.std.proofs.Common.{ℕ, ◌<◌, get_or}
use Rattle.step_views.specs.declared.places.Change.{Change}
use Rattle.step_views.specs.FullBits.{FillsOrEmpties}
use Rattle.stream_waits.proofs.turns.turns.Given as goal

abbrev pub invariant-loop-change : goal.invariant-loop-change
invariant-loop-change l =
    (k : ℕ) (d : Change) → k < l.change-index → FillsOrEmpties l.address (get_or l.view.changes.items k d) → ⊥
