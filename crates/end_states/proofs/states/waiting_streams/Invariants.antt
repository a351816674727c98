-- Those so far, and those of the running streams that are left, are all.
use Rattle.std.proofs.Common.{◌≡◌, ◌++◌, drop}
use Rattle.end_states.specs.EndStates.{waiting_of}
use Rattle.end_states.proofs.states.waiting_streams.Given as goal

abbrev pub invariant-loop-stream : goal.invariant-loop-stream
invariant-loop-stream g l =
    l.waiting.items ++ waiting_of l.machine (drop l.stream-index l.stream-items) ≡ waiting_of l.machine l.stream-items
