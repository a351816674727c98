-- A session, as contracts see it.
use Rattle.std.specs.Prelude.{ℕ, List, [], take, Option}
use Rattle.image_file.specs.ImageValue.{ImageValue}
use Rattle.processor.specs.World.{World, run}
use Rattle.processor.specs.declared.steps.Step.{Step}
use Rattle.replay_debugger.specs.declared.points.Point.{Point}

-- its image, its schedule, the position that it stands at, and its points
pub record SessionValue : Type 0 where
  pub image : ImageValue
  pub schedule : List Step
  pub position : ℕ
  pub points : List (Option Point)

-- position k of a schedule is the world after its first k steps
abbrev pub world_at : ImageValue → List Step → ℕ → World
world_at image schedule k = run image (take k schedule)

-- the world that a session shows
abbrev pub session_world : SessionValue → World
session_world s = world_at s.image s.schedule s.position

-- a session at its start
abbrev pub session_at_start : ImageValue → List Step → SessionValue
session_at_start image schedule = record { image = image; schedule = schedule; position = 0; points = [] }
