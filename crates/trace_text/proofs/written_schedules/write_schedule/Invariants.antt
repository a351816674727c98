use Rattle.std.proofs.Common.{◌≡◌, ◌++◌, length, string_bytes}
use Rattle.trace_text.specs.Runs.{schedule_text}
use Rattle.trace_text.proofs.written_schedules.write_schedule.Given as goal

-- the text so far and that of the steps to come are the whole text
abbrev pub invariant-loop-first : goal.invariant-loop-first
invariant-loop-first l = string_bytes l.text ++ schedule_text l.rest ≡ schedule_text l.steps

abbrev pub decreases-loop-first : goal.decreases-loop-first
decreases-loop-first l = length l.rest
