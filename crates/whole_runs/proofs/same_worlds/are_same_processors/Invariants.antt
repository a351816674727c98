-- The same at each place so far.
use Rattle.whole_runs.proofs.SameLists.{AreSameBelow}
use Rattle.whole_runs.proofs.same_worlds.are_same_processors.Given as goal

abbrev pub invariant-loop-p : goal.invariant-loop-p
invariant-loop-p g l = AreSameBelow l.one.world.processors l.other.world.processors l.p
