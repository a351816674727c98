-- The same at each place so far.
use Rattle.whole_runs.proofs.SameLists.{AreSameBelow}
use Rattle.whole_runs.proofs.same_worlds.are_same_targets.Given as goal

abbrev pub invariant-loop-number : goal.invariant-loop-number
invariant-loop-number l = AreSameBelow l.a.targets l.b.targets l.number
