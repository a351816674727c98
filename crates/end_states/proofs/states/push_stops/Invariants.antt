-- Those so far, and those of the streams that are left, are all.
use Rattle.std.proofs.Common.{◌≡◌, ◌++◌, drop, slice_get}
use Rattle.waiting.specs.Running.{streams_at}
use Rattle.end_states.specs.EndStates.{stops_from}
use Rattle.end_states.proofs.states.push_stops.Given as goal

abbrev pub invariant-loop-s : goal.invariant-loop-s
invariant-loop-s g l =
    l.stopped.items ++ stops_from l.p l.s (drop l.s (streams_at (slice_get l.machine.world.processors l.p)))
    ≡ l.fn.stopped.items ++ stops_from l.p 0 (streams_at (slice_get l.machine.world.processors l.p))
