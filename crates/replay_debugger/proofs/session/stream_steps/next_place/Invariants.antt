use Rattle.replay_debugger.specs.Stops.{NoneAbove}
use Rattle.replay_debugger.specs.StreamSteps.{has_just_stepped}
use Rattle.replay_debugger.proofs.session.stream_steps.next_place.Given as goal

-- up to this place the stream has not stepped
abbrev pub invariant-loop-place : goal.invariant-loop-place
invariant-loop-place l = NoneAbove (has_just_stepped l.schedule l.p l.s) l.fn.position l.place
