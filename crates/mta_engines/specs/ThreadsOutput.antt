-- What the command `threads` writes for an image and a fuel.
use Rattle.std.specs.Prelude.{◌≡◌, ◌≢◌, ◌<◌, ◌+◌, ◌*◌, ℕ, List, [], ◌∷◌, ◌++◌, length, ◌⊎◌}
use Rattle.image_file.specs.ImageValue.{ImageValue}
use Rattle.processor.specs.World.{run, history_of, most_steps}
use Rattle.processor.specs.declared.steps.Entry.{Entry}
use Rattle.processor.specs.declared.steps.Step.{Step}
use Rattle.shared_history.specs.Parts.{PartsValue}
use Rattle.shared_history.specs.Schedule.{WovenValue}
use Rattle.shared_history.specs.Gathering.{Refuses}
use Rattle.shared_history.specs.declared.parts.PartsFault.TheVariants as parts
use Rattle.shared_history.specs.declared.gathering.GatherFault.{GatherFault}
use Rattle.shared_history.specs.declared.gathering.GatherFault.TheVariants as gather
use Rattle.memory_lock.specs.Runs.{AreRunParts, IsThreaded}
use Rattle.trace_text.specs.Runs.{schedule_text}
use Rattle.trace_text.specs.HistoryLines.{history_line_of}
use Rattle.trace_text.specs.WorldTexts.{world_text_of}
use Rattle.mta_engines.specs.Images.{IsImageOf, HasImageFault}
use Rattle.mta_engines.specs.declared.tool_fault.ToolFault.{ToolFault}
use Rattle.mta_engines.specs.declared.tool_fault.ToolFault.TheVariants.{Read, Write, TooLarge, NoMemory, Words}
use Rattle.mta_engines.specs.declared.tool_fault.ToolFault.TheVariants.{Asm, Image, Schedule, Build, Gather}

-- The texts.

-- a line for each entry, of which the first has this number
abbrev pub history_text : ℕ → List Entry → List ℕ
history_text n [] = []
history_text n (e ∷ es) = history_line_of n e ++ history_text (n + 1) es

-- the history that a schedule makes, then what the machine came to
unfoldable pub threads_output : ImageValue → List Step → List ℕ
threads_output image ts = history_text 1 (history_of image ts) ++ world_text_of image (run image ts)

-- The texts are those of one run of the image's processors at once: a schedule that does the same as the run, and
-- what this schedule makes of the image.
pub record AreThreadsTexts (image : ImageValue) (fuel : ℕ) (schedule_output output : List ℕ) : Type 0 where
  pub run_is : WovenValue
  pub threaded : IsThreaded image fuel run_is
  pub schedule_is : schedule_output ≡ schedule_text run_is.schedule
  pub text : output ≡ threads_output image run_is.schedule

-- the same for the bytes of an image
pub record IsThreadsOutput (bytes : List ℕ) (fuel : ℕ) (schedule_output output : List ℕ) : Type 0 where
  pub image : ImageValue
  pub image_is : IsImageOf bytes image
  pub texts : AreThreadsTexts image fuel schedule_output output

-- the schedule of such a run, whatever else it comes to
abbrev pub IsThreadsSchedule : List ℕ → ℕ → List ℕ → Type 0
IsThreadsSchedule bytes fuel schedule_output = (output : List ℕ) × IsThreadsOutput bytes fuel schedule_output output

-- The faults.

-- the processors would take more steps together than a schedule has
abbrev pub IsTooLong : ImageValue → ℕ → Type 0
IsTooLong image fuel = most_steps < length image.entries * fuel

-- a run of the image's processors left parts that are not gathered for this reason
pub record IsNotGathered (image : ImageValue) (fuel : ℕ) (fault : GatherFault) : Type 0 where
  pub left : PartsValue
  pub run : AreRunParts image fuel left
  pub refused : Refuses left fault

-- why no schedule of the image's processors is handed out; two processors are never refused as Torn
abbrev pub HasRefusal : ImageValue → ℕ → ToolFault → Type 0
HasRefusal image fuel (Build parts.TooLong) = IsTooLong image fuel
HasRefusal image fuel (Build parts.Streams) = ⊥
HasRefusal image fuel (Build parts.NoMemory) = ⊥
HasRefusal image fuel (Gather (gather.Foreign p)) = IsNotGathered image fuel (gather.Foreign p)
HasRefusal image fuel (Gather (gather.Short p)) = IsNotGathered image fuel (gather.Short p)
HasRefusal image fuel (Gather (gather.Torn p)) =
    (length image.entries ≢ 2) × IsNotGathered image fuel (gather.Torn p)
HasRefusal image fuel (Gather gather.NoMemory) = ⊥
HasRefusal image fuel TooLarge = ⊥
HasRefusal image fuel Read = ⊥
HasRefusal image fuel Write = ⊥
HasRefusal image fuel NoMemory = ⊥
HasRefusal image fuel (Words line) = ⊥
HasRefusal image fuel (Asm fault) = ⊥
HasRefusal image fuel (Image fault) = ⊥
HasRefusal image fuel (Schedule fault) = ⊥

-- a run is refused only where the image has no fault
pub record HasLaterRefusal (bytes : List ℕ) (fuel : ℕ) (fault : ToolFault) : Type 0 where
  pub image : ImageValue
  pub image_is : IsImageOf bytes image
  pub refusal : HasRefusal image fuel fault

-- the image's fault, or the run's refusal
abbrev pub HasThreadsFault : List ℕ → ℕ → ToolFault → Type 0
HasThreadsFault bytes fuel fault = HasImageFault bytes fault ⊎ HasLaterRefusal bytes fuel fault
