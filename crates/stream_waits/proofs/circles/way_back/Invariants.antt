-- The way so far does not lead back.
use Rattle.stream_waits.proofs.Walks.{IsOnWay}
use Rattle.stream_waits.proofs.circles.way_back.Given as goal

abbrev pub invariant-loop-taken : goal.invariant-loop-taken
invariant-loop-taken l = IsOnWay l.waits l.first l.at l.way.items l._taken
