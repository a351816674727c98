-- The same at each place so far.
use Rattle.whole_runs.proofs.SameLists.{AreSameBelow}
use Rattle.whole_runs.proofs.same_worlds.are_same_words.Given as goal

abbrev pub invariant-loop-index : goal.invariant-loop-index
invariant-loop-index g l = AreSameBelow l.one.world.memory.cells l.other.world.memory.cells l.index
