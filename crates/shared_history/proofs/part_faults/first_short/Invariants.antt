-- The records so far have finished.
use Rattle.std.proofs.Common.{◌<◌, ℕ}
use Rattle.std.specs.Prelude.{slice_get}
use Rattle.shared_history.specs.Parts.{HasFinished}
use Rattle.shared_history.proofs.part_faults.first_short.Given as goal

abbrev pub invariant-loop-p : goal.invariant-loop-p
invariant-loop-p g l = (q : ℕ) → q < l.p → HasFinished l.fuel (slice_get l.records q)
