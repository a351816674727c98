-- None of the waits so far is the stream's.
use Rattle.std.proofs.Common.{◌≡◌, drop}
use Rattle.stream_waits.specs.Circles.{next_of}
use Rattle.stream_waits.proofs.circles.next_of.Given as goal

abbrev pub invariant-loop-wait : goal.invariant-loop-wait
invariant-loop-wait l = next_of l.waits l.stream ≡ next_of (drop l.wait-index l.waits) l.stream
