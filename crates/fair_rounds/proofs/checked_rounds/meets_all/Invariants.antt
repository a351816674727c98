-- so it is of the standings so far
use Rattle.fair_rounds.proofs.Checks.{Met}
use Rattle.fair_rounds.proofs.checked_rounds.meets_all.Given as goal

abbrev pub invariant-loop-number : goal.invariant-loop-number
invariant-loop-number l = Met l.round l.standings l.marks l.number
