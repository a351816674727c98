-- Positions of a session: another one, and the step that led to its own.
use Rattle.std.specs.Prelude.{◌≡◌, ℕ, ◌-◌, Some}
use Rattle.machine.specs.MachineValue.{MachineValue}
use Rattle.processor.specs.declared.steps.Step.{Step}
use Rattle.step_views.specs.declared.step_views.StepView.{StepView}
use Rattle.step_views.specs.StepViews.{IsViewOf}
use Rattle.replay_debugger.specs.Sessions.{SessionValue, world_at}
use Rattle.replay_debugger.specs.StreamSteps.{step_to}

-- a session at another position; all else is the same
abbrev pub at_position : SessionValue → ℕ → SessionValue
at_position s k = record s { position = k }

-- the machine at a position of a session's schedule
abbrev pub machine_seen : SessionValue → ℕ → MachineValue
machine_seen s k = record { image = s.image; world = world_at s.image s.schedule k }

-- what is shown of the step that led to a session's position: what it did to the world before it, and the machine after it
pub record IsLastStep (s : SessionValue) (view : StepView) (machine : MachineValue) : Type 0 where
  pub step : Step
  pub led : step_to s.schedule s.position ≡ Some step
  pub did : IsViewOf s.image (world_at s.image s.schedule (s.position - 1)) step view
  pub after : machine ≡ machine_seen s s.position
