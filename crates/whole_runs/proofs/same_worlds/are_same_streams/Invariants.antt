-- The same at each place so far.
use Rattle.whole_runs.specs.SameWorlds.{processor_in}
use Rattle.whole_runs.proofs.SameLists.{AreSameBelow}
use Rattle.whole_runs.proofs.same_worlds.are_same_streams.Given as goal

abbrev pub invariant-loop-s : goal.invariant-loop-s
invariant-loop-s g l =
    AreSameBelow (processor_in l.one.world l.p).streams (processor_in l.other.world l.p).streams l.s
