-- What the command `run` writes for an image and a schedule.
use Rattle.std.specs.Prelude.{◌≡◌, ◌≤◌, ◌<◌, ℕ, ◌+◌, List, [], ◌∷◌, ◌++◌, length, Ok, Err}
use Rattle.std.specs.Prelude.{◌⊎◌}
use Rattle.image_file.specs.ImageValue.{ImageValue}
use Rattle.processor.specs.World.{World, start, after, outcome_of, run}
use Rattle.processor.specs.declared.steps.Step.{Step}
use Rattle.replay_debugger.specs.Stops.{stream_named}
use Rattle.trace_text.specs.Schedules.{schedule_of}
use Rattle.trace_text.specs.TraceLines.{trace_line_of}
use Rattle.trace_text.specs.WorldTexts.{world_text_of}
use Rattle.mta_engines.specs.Input.{input_limit}
use Rattle.mta_engines.specs.Images.{IsImageOf, HasImageFault}
use Rattle.mta_engines.specs.declared.tool_fault.ToolFault.{ToolFault}
use Rattle.mta_engines.specs.declared.tool_fault.ToolFault.TheVariants.{Read, Write, TooLarge, NoMemory, Words}
use Rattle.mta_engines.specs.declared.tool_fault.ToolFault.TheVariants.{Asm, Image, Schedule, Build, Gather}

-- The text.

-- the pc of the stream that a step names; 0, as of an idle one, where there is none
abbrev pub pc_of : World → Step → ℕ
pc_of w t = (stream_named w t).ssw.pc

-- a line for each step, of which the first has this number
abbrev pub trace_from : ImageValue → World → ℕ → List Step → List ℕ
trace_from image w n [] = []
trace_from image w n (t ∷ ts) =
    trace_line_of n t (pc_of w t) (outcome_of image w t) ++ trace_from image (after image w t) (n + 1) ts

-- the trace from the start on, then what the machine came to
unfoldable pub run_output : ImageValue → List Step → List ℕ
run_output image ts = trace_from image (start image) 1 ts ++ world_text_of image (run image ts)

-- The inputs.

-- the bytes are this schedule's
pub record IsScheduleOf (bytes : List ℕ) (ts : List Step) : Type 0 where
  pub within : length bytes ≤ input_limit
  pub says : schedule_of bytes ≡ Ok ts

-- the output for the bytes of an image and of a schedule
pub record IsRunOutput (image_bytes schedule_bytes output : List ℕ) : Type 0 where
  pub image : ImageValue
  pub schedule : List Step
  pub image_is : IsImageOf image_bytes image
  pub schedule_is : IsScheduleOf schedule_bytes schedule
  pub text : output ≡ run_output image schedule

abbrev pub HasScheduleFault : List ℕ → ToolFault → Type 0
HasScheduleFault bytes TooLarge = input_limit < length bytes
HasScheduleFault bytes (Schedule fault) = (length bytes ≤ input_limit) × (schedule_of bytes ≡ Err fault)
HasScheduleFault bytes Read = ⊥
HasScheduleFault bytes Write = ⊥
HasScheduleFault bytes NoMemory = ⊥
HasScheduleFault bytes (Words line) = ⊥
HasScheduleFault bytes (Asm fault) = ⊥
HasScheduleFault bytes (Image fault) = ⊥
HasScheduleFault bytes (Build fault) = ⊥
HasScheduleFault bytes (Gather fault) = ⊥

-- a fault of the schedule is answered only where the image has none
pub record HasLaterFault (image_bytes schedule_bytes : List ℕ) (fault : ToolFault) : Type 0 where
  pub image : ImageValue
  pub image_is : IsImageOf image_bytes image
  pub fault_is : HasScheduleFault schedule_bytes fault

-- the fault of the first input that has one
abbrev pub HasRunFault : List ℕ → List ℕ → ToolFault → Type 0
HasRunFault image_bytes schedule_bytes fault =
    HasImageFault image_bytes fault ⊎ HasLaterFault image_bytes schedule_bytes fault
