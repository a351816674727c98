-- What is written of a schedule is read as the same steps.
use Rattle.std.specs.Prelude.{◌≡◌, ◌≤◌, List, length, All, Ok}
use Rattle.processor.specs.World.{most_steps}
use Rattle.processor.specs.declared.steps.Step.{Step}
use Rattle.trace_text.specs.Schedules.{schedule_of}
use Rattle.trace_text.specs.Runs.{schedule_text}

-- the numbers of a step are bytes
abbrev pub IsStep : Step → Type 0
IsStep t = (t.p ≤ 255) × (t.s ≤ 255)

-- no more steps than a schedule has
abbrev pub ScheduleReadsBack : Type 0
ScheduleReadsBack =
    (steps : List Step) → All IsStep steps → length steps ≤ most_steps → schedule_of (schedule_text steps) ≡ Ok steps
