-- What the code reads of a line: its run, or its first fault.
use Rattle.std.specs.Prelude.{ℕ, ◌≡◌, ◌+◌, ◌≤◌, Option, Some, None, Result, Ok, Err}
use Rattle.processor.specs.World.{most_steps}
use Rattle.trace_text.specs.ScheduleLines.{LineValues}
use Rattle.trace_text.specs.ScheduleFaults.{schedule_line_fault}
use Rattle.trace_text.specs.LineNumbers.{run_of}
use Rattle.trace_text.specs.declared.runs.StepRun.{StepRun}
use Rattle.trace_text.specs.declared.schedule_fault.ScheduleFaultKind.{ScheduleFaultKind}

-- of a line with these numbers, before which so many steps stand
abbrev pub IsLineRun : ℕ → Option LineValues → Result StepRun ScheduleFaultKind → Type 0
IsLineRun before v (Ok run) =
    (schedule_line_fault before v ≡ None) × (before + run.times ≤ most_steps)
    × ((x : LineValues) × (v ≡ Some x) × (run_of x ≡ run))
IsLineRun before v (Err kind) = schedule_line_fault before v ≡ Some kind
