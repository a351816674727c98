-- A stream that can't go on while nobody else does, and a world in which nobody can.
use Rattle.std.specs.Prelude.{◌≡◌, IsTrue, List}
use Rattle.image_file.specs.ImageValue.{ImageValue}
use Rattle.stream_core.specs.declared.steps.Outcome.TheVariants as outcome
use Rattle.machine.specs.Processor.World.{World, world_step, steps}
use Rattle.machine.specs.ProcessorTypes.Step.{Step}
use Rattle.waiting.specs.Running.{runs_in}

-- The stream that the step names runs, and the step is Blocked and leaves the world as it is.
pub record IsStuck (image : ImageValue) (w : World) (t : Step) : Type 0 where
  pub runs : IsTrue (runs_in w t)
  pub stays : world_step image w t ≡ (w, outcome.Blocked)

-- some stream runs
abbrev pub SomeRuns : World → Type 0
SomeRuns w = (t : Step) × IsTrue (runs_in w t)

-- each stream that runs is stuck
abbrev pub AllStuck : ImageValue → World → Type 0
AllStuck image w = (t : Step) → IsTrue (runs_in w t) → IsStuck image w t

-- A standstill: some stream runs, and none that runs can go on.
pub record IsStandstill (image : ImageValue) (w : World) : Type 0 where
  pub some : SomeRuns w
  pub each : AllStuck image w

-- whatever steps are taken, the world stays as it is
abbrev pub StaysForEver : ImageValue → World → Type 0
StaysForEver image w = (ts : List Step) → steps image w ts ≡ w
