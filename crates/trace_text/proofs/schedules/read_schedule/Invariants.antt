use Rattle.std.proofs.Common.{◌≡◌, ◌+◌, ◌≤◌, length, vec_len}
use Rattle.trace_text.specs.Schedules.{schedule_of}
use Rattle.trace_text.proofs.Reading.{read_on}
use Rattle.trace_text.proofs.schedules.read_schedule.Given as goal

-- the text is what is read of it and what the lines to come say
abbrev pub invariant-loop-rest : goal.invariant-loop-rest
invariant-loop-rest l = record {
  few : vec_len l.steps ≤ 1000000;
  line : l.number + length l.rest ≤ length l.text;
  whole : schedule_of l.text ≡ read_on (l.number + 1) l.steps.items l.rest;
}

abbrev pub decreases-loop-rest : goal.decreases-loop-rest
decreases-loop-rest l = length l.rest
