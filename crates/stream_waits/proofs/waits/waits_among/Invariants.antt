-- What is told of the streams so far.
use Rattle.std.proofs.Common.{take}
use Rattle.stream_waits.specs.StreamWaits.{AreWaitsOf}
use Rattle.stream_waits.proofs.waits.waits_among.Given as goal

abbrev pub invariant-loop-stream : goal.invariant-loop-stream
invariant-loop-stream g l = AreWaitsOf l.machine l.views (take l.stream-index l.streams) l.waits.items
