-- Numbers of a line as the code has them.
use Rattle.std.specs.Prelude.{Option, Some, None, if◌then◌else◌}
use Rattle.text_parts.specs.Numbers.{number_from}
use Rattle.trace_text.specs.ScheduleLines.{LineValues, is_within, step_of}
use Rattle.trace_text.specs.declared.line_numbers.LineNumbers.{LineNumbers}
use Rattle.trace_text.specs.declared.runs.StepRun.{StepRun}

abbrev pub numbers_from : LineValues → LineNumbers
numbers_from v = record {
  processor = number_from v.processor;
  stream = number_from v.stream;
  times = number_from v.times;
}

-- a line's step, and how often it is taken
abbrev pub run_of : LineValues → StepRun
run_of v = record { step = step_of v; times = v.times }

abbrev pub run_within : LineValues → Option StepRun
run_within v = if is_within v then Some (run_of v) else None
