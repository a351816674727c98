use Rattle.replay_debugger.proofs.Keeping.{IsLooked}
use Rattle.replay_debugger.proofs.checkpoints.nearest_place.Given as goal

abbrev pub invariant-loop-place : goal.invariant-loop-place
invariant-loop-place g l = IsLooked l.kept l.fn.least l.goal l.place l.least l.nearest
