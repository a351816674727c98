-- A machine at a position of a schedule.
use Rattle.std.specs.Prelude.{◌≡◌, ℕ, ◌≤◌, List, length, Option}
use Rattle.image_file.specs.ImageValue.{ImageValue}
use Rattle.machine.specs.MachineValue.{MachineValue}
use Rattle.processor.specs.declared.steps.Step.{Step}
use Rattle.replay_debugger.specs.declared.points.Point.{Point}
use Rattle.replay_debugger.specs.declared.replay.Replay.{Replay}
use Rattle.replay_debugger.specs.Sessions.{SessionValue, world_at}

-- the position is one of the schedule, and the machine shows its world
pub record StandsAt (schedule : List Step) (m : MachineValue) (k : ℕ) : Type 0 where
  pub within : k ≤ length schedule
  pub world : m.world ≡ world_at m.image schedule k

-- a schedule over an image
pub record CheckpointsValue : Type 0 where
  pub image : ImageValue
  pub schedule : List Step

abbrev pub checkpoints_of : ImageValue → List Step → CheckpointsValue
checkpoints_of image schedule = record { image = image; schedule = schedule }

-- a machine of the course's image stands at its position of the schedule
pub record IsOn {size : ℕ} (course : CheckpointsValue) (r : Replay size) : Type 0 where
  pub image : r.machine.image ≡ course.image
  pub stands : StandsAt course.schedule r.machine r.position

-- the session of these parts
abbrev pub session_of : ImageValue → List Step → ℕ → List (Option Point) → SessionValue
session_of image schedule position points =
    record { image = image; schedule = schedule; position = position; points = points }
