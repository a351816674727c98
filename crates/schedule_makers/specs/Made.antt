-- What is made of a machine by a rule: a schedule, and why it ends.
use Rattle.std.specs.Prelude.{◌≡◌, ◌≤◌, ℕ, List, Some, length, take, slice_get, IsTrue}
use Rattle.image_file.specs.ImageValue.{ImageValue}
use Rattle.processor.specs.World.{World, steps}
use Rattle.processor.specs.declared.steps.Step.{Step}
use Rattle.machine.specs.MachineValue.{MachineValue}
use Rattle.waiting.specs.Running.{runs_in}
use Rattle.waiting.specs.Stuck.{SomeRuns, IsStandstill}
use Rattle.schedule_makers.specs.Rules.{Rule}
use Rattle.schedule_makers.specs.declared.made.MadeEnd.{MadeEnd}
use Rattle.schedule_makers.specs.declared.made.MadeEnd.TheVariants as reason

-- A step that the rule takes in a world, after these steps: it is of a stream that runs there, and somebody can go on.
pub record IsTaken (rule : Rule) (image : ImageValue) (w : World) (before : List Step) (t : Step) : Type 0 where
  pub ruled : rule before image w ≡ Some t
  pub runs : IsTrue (runs_in w t)
  pub going : ¬ IsStandstill image w

-- Each step is taken by the rule in the world that the steps before it lead to.
abbrev pub AreTaken : Rule → ImageValue → World → List Step → Type 0
AreTaken rule image w ts =
    (k : ℕ) (t : Step) → slice_get ts k ≡ Some t → IsTaken rule image (steps image w (take k ts)) (take k ts) t

-- Why a schedule ends that leads to a world.
abbrev pub IsEnd : ImageValue → World → MadeEnd → Type 0
IsEnd image w reason.NobodyRuns = ¬ SomeRuns w
IsEnd image w reason.Standstill = IsStandstill image w
IsEnd image w reason.OutOfSteps = SomeRuns w × (¬ IsStandstill image w)

-- A machine was led on by a schedule that the rule made of it, which has at most so many steps. It ends for the reason
-- that is told, and none of its steps was taken where a reason to end was before.
pub record IsMade (rule : Rule) (old new : MachineValue) (most : ℕ) (ts : List Step) (end : MadeEnd) : Type 0 where
  pub image : new.image ≡ old.image
  pub world : new.world ≡ steps old.image old.world ts
  pub taken : AreTaken rule old.image old.world ts
  pub within : length ts ≤ most
  pub ends : IsEnd new.image new.world end
  pub all : end ≡ reason.OutOfSteps → length ts ≡ most

-- A machine was led on by some steps.
pub record HasStepped (old new : MachineValue) : Type 0 where
  pub image : new.image ≡ old.image
  pub ts : List Step
  pub world : new.world ≡ steps old.image old.world ts
