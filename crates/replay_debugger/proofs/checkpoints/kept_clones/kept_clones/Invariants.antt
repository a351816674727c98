use Rattle.std.proofs.Common.{ℕ, ◌≤◌, length}
use Rattle.std.specs.List.{All}
use Rattle.replay_debugger.specs.Places.{CheckpointsValue}
use Rattle.replay_debugger.specs.Checkpoints.{IsCheckpoint}
use Rattle.replay_debugger.proofs.checkpoints.kept_clones.kept_clones.Given as goal

-- no more clones than places so far, and all are of kept machines
abbrev pub invariant-loop-replay : goal.invariant-loop-replay
invariant-loop-replay g l = record {
  few : length l.clones.items ≤ l.replay-index;
  are_kept : (course : CheckpointsValue) (spacing : ℕ) → All (IsCheckpoint course spacing) l.kept
      → All (IsCheckpoint course spacing) l.clones.items;
}
