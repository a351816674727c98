-- The marks are of the same claims.
use Rattle.std.proofs.Common.{◌≡◌}
use Rattle.schedule_verdicts.proofs.marking.mark_at.Given as goal

abbrev pub invariant-loop-number : goal.invariant-loop-number
invariant-loop-number g l = l.marks ≡ l.initial.marks
