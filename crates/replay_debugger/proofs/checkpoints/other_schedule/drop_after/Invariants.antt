use Rattle.std.proofs.Common.{ℕ, ◌-◌, ◌<◌, ◌≤◌, length, vec_len, get_or}
use Rattle.std.specs.List.{All}
use Rattle.replay_debugger.specs.declared.replay.Replay.{Replay}
use Rattle.replay_debugger.specs.Places.{CheckpointsValue}
use Rattle.replay_debugger.specs.Checkpoints.{IsCheckpoint}
use Rattle.replay_debugger.proofs.checkpoints.other_schedule.drop_after.Given as goal

abbrev pub decreases-loop-place : goal.decreases-loop-place
decreases-loop-place g l = vec_len l.kept - l.place

-- what is kept was kept before, and up to this place none stands behind the position
abbrev pub invariant-loop-place : goal.invariant-loop-place
invariant-loop-place g l = record {
  few : length l.kept.items ≤ length l.initial.kept.items;
  were_kept : (course : CheckpointsValue) (old : ℕ) → All (IsCheckpoint course old) l.initial.kept.items
      → All (IsCheckpoint course old) l.kept.items;
  within : (k : ℕ) (d : Replay g.row.S) → k < l.place → (get_or l.kept.items k d).position ≤ l.last;
}
