-- The records so far belong.
use Rattle.shared_history.proofs.Belonging.{BelongBelow}
use Rattle.shared_history.proofs.part_faults.first_foreign.Given as goal

abbrev pub invariant-loop-p : goal.invariant-loop-p
invariant-loop-p g l = BelongBelow l.shared.image l.records l.p
