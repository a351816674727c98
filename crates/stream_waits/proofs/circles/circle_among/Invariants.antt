-- No circle begins with a stream of the waits so far.
use Rattle.stream_waits.proofs.FindingCircles.{NoneBelow}
use Rattle.stream_waits.proofs.circles.circle_among.Given as goal

abbrev pub invariant-loop-wait : goal.invariant-loop-wait
invariant-loop-wait l = NoneBelow l.waits l.wait-index
