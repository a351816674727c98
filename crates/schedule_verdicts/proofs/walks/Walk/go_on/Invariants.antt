-- The walk has come no further.
use Rattle.std.proofs.Common.{◌≡◌}
use Rattle.schedule_verdicts.proofs.walks.Walk.go_on.Given as goal

abbrev pub invariant-loop-number : goal.invariant-loop-number
invariant-loop-number g l = l.self ≡ l.initial.self
