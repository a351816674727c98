-- The schedule that a text says.
use Rattle.std.specs.Prelude.{ℕ, List, Option, Some, None, Result, Ok, Err, map}
use Rattle.std.specs.List.{flat_map}
use Rattle.processor.specs.declared.steps.Step.{Step}
use Rattle.text_parts.specs.Lines.{lines_of}
use Rattle.trace_text.specs.ScheduleLines.{LineValues, values_of, steps_on}
use Rattle.trace_text.specs.ScheduleFaults.{fault_from}
use Rattle.trace_text.specs.declared.schedule_fault.ScheduleFault.{ScheduleFault}

-- what each line says
abbrev pub values_by_line : List ℕ → List (Option LineValues)
values_by_line text = map values_of (lines_of text)

-- the least line with a fault and its first fault, if there is one
unfoldable pub schedule_fault : List ℕ → Option ScheduleFault
schedule_fault text = fault_from 1 0 (values_by_line text)

-- the steps of all lines in their order
unfoldable pub schedule_steps : List ℕ → List Step
schedule_steps text = flat_map steps_on (values_by_line text)

-- the steps, or the fault where there is one
abbrev pub unless_fault : Option ScheduleFault → List Step → Result (List Step) ScheduleFault
unless_fault None steps = Ok steps
unless_fault (Some fault) steps = Err fault

-- the schedule, or the fault of a text that is none
unfoldable pub schedule_of : List ℕ → Result (List Step) ScheduleFault
schedule_of text = unless_fault (schedule_fault text) (schedule_steps text)
