-- Machines that are kept at positions of a schedule.
use Rattle.std.specs.Prelude.{◌≡◌, ℕ, ◌<◌, ◌≤◌, ◌%◌, List, length, Option, IfSome}
use Rattle.std.specs.List.{All}
use Rattle.replay_debugger.specs.declared.replay.Replay.{Replay}
use Rattle.replay_debugger.specs.Places.{CheckpointsValue, IsOn}

-- a kept machine: it shows the world of its position, which is a multiple of the spacing
pub record IsCheckpoint {size : ℕ} (course : CheckpointsValue) (spacing : ℕ) (r : Replay size) : Type 0 where
  pub is_on : IsOn course r
  pub behind_start : 0 < r.position
  pub spaced : r.position % spacing ≡ 0

-- a machine that is kept before any step
pub record IsStart {size : ℕ} (course : CheckpointsValue) (r : Replay size) : Type 0 where
  pub is_on : IsOn course r
  pub first : r.position ≡ 0

-- what is kept of a course: the start, and at most 32 positions beside it; the streams of the image have room
pub record AreCheckpoints (size : ℕ) (course : CheckpointsValue) (spacing : ℕ) (start : Option (Replay size))
    (kept : List (Replay size)) : Type 0 where
  pub room : course.image.slim ≤ size
  pub positive : 0 < spacing
  pub first : IfSome start (IsStart course)
  pub few : length kept ≤ 32
  pub each : All (IsCheckpoint course spacing) kept

-- r stands from least to goal, and none that does stands behind it
pub record IsNearest {size : ℕ} (least goal : ℕ) (kept : List (Replay size)) (r : Replay size) : Type 0 where
  pub from : least ≤ r.position
  pub within : r.position ≤ goal
  pub greatest : All (λ other. other.position ≤ goal → other.position ≤ r.position) kept

-- none stands from least to goal
abbrev pub NoneNear : {size : ℕ} → ℕ → ℕ → List (Replay size) → Type 0
NoneNear {size} least goal kept = All (λ (r : Replay size). r.position ≤ goal → r.position < least) kept
