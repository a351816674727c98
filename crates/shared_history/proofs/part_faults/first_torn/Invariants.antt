-- The records are compared with the entries so far; then those so far have all theirs.
use Rattle.std.proofs.Common.{◌≡◌, length}
use Rattle.shared_history.proofs.Comparing.{AreMet, EntriesBelow}
use Rattle.shared_history.proofs.part_faults.first_torn.Given as goal

abbrev pub invariant-loop-entry : goal.invariant-loop-entry
invariant-loop-entry g l = (length l.taken ≡ 16) × AreMet l.records l.shared.history l.taken l.entry-index l.torn

abbrev pub invariant-loop-p : goal.invariant-loop-p
invariant-loop-p g l = EntriesBelow l.records l.shared.history l.p
