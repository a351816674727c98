-- Faults of the lines of a schedule: the least line with a fault, and its first fault.
use Rattle.std.specs.Prelude.{ℕ, ◌+◌, nat_le, if◌then◌else◌, List, [], ◌∷◌, Option, Some, None}
use Rattle.processor.specs.World.{most_steps}
use Rattle.trace_text.specs.ScheduleLines.{LineValues, is_within, times_on}
use Rattle.trace_text.specs.declared.schedule_fault.ScheduleFault.{ScheduleFault}
use Rattle.trace_text.specs.declared.schedule_fault.ScheduleFaultKind.{ScheduleFaultKind}
use Rattle.trace_text.specs.declared.schedule_fault.ScheduleFaultKind.TheVariants.{Form, Number, Limit, NoMemory}

abbrev pub schedule_fault_number : ScheduleFaultKind → ℕ
schedule_fault_number Form = 1
schedule_fault_number Number = 2
schedule_fault_number Limit = 3
schedule_fault_number NoMemory = 4

-- refused memory stands on no line
abbrev pub schedule_no_memory : ScheduleFault
schedule_no_memory = record { line = 0; kind = NoMemory }

-- the first fault of a line before which so many steps stand
abbrev pub schedule_line_fault : ℕ → Option LineValues → Option ScheduleFaultKind
schedule_line_fault before None = Some Form
schedule_line_fault before (Some v) =
    if is_within v then (if nat_le (before + v.times) most_steps then None else Some Limit) else Some Number

-- the fault of a line, or where it has none a later one
abbrev pub on_line : ℕ → Option ScheduleFaultKind → Option ScheduleFault → Option ScheduleFault
on_line line None later = later
on_line line (Some kind) later = Some (record { line = line; kind = kind })

-- the fault of lines of which the first has this number, and before which so many steps stand
abbrev pub fault_from : ℕ → ℕ → List (Option LineValues) → Option ScheduleFault
fault_from line before [] = None
fault_from line before (v ∷ vs) =
    on_line line (schedule_line_fault before v) (fault_from (line + 1) (before + times_on v) vs)
