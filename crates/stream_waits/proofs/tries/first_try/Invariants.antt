-- The steps from this place on were looked at.
use Rattle.stream_waits.proofs.LookedTries.{Looked}
use Rattle.stream_waits.proofs.tries.first_try.Given as goal

abbrev pub invariant-loop-index : goal.invariant-loop-index
invariant-loop-index l = Looked l.views l.stream l.index l.since
