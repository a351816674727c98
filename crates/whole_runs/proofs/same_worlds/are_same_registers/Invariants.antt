-- The same at each place so far.
use Rattle.whole_runs.proofs.SameLists.{AreSameBelow}
use Rattle.whole_runs.proofs.same_worlds.are_same_registers.Given as goal

abbrev pub invariant-loop-number : goal.invariant-loop-number
invariant-loop-number l = AreSameBelow l.a.registers l.b.registers l.number
