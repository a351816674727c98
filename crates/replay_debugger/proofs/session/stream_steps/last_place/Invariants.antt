use Rattle.std.proofs.Common.{◌≡◌, ℕ, ◌<◌, false}
use Rattle.replay_debugger.specs.StreamSteps.{has_just_stepped}
use Rattle.replay_debugger.proofs.session.stream_steps.last_place.Given as goal

-- from behind this place on the stream has not stepped
abbrev pub invariant-loop-place : goal.invariant-loop-place
invariant-loop-place l = (k : ℕ) → l.place < k → k < l.fn.position → has_just_stepped l.schedule l.p l.s k ≡ false
