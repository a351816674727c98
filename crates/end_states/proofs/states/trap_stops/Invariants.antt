-- Those so far, and those of the processors that are left, are all.
use Rattle.std.proofs.Common.{◌≡◌, ◌++◌, drop}
use Rattle.end_states.specs.EndStates.{stops_of, trap_stops}
use Rattle.end_states.proofs.states.trap_stops.Given as goal

abbrev pub invariant-loop-p : goal.invariant-loop-p
invariant-loop-p g l =
    l.stopped.items ++ stops_of l.p (drop l.p l.machine.world.processors) ≡ trap_stops l.machine.world
