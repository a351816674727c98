use Rattle.std.proofs.Common.{rules, ◌≡◌, ◌∙◌, ◌+◌, ◌==◌, false, length, None, ◌≤◌, ap, sym, arith}
use Rattle.std.specs.List.{before_first}
use Rattle.text_parts.specs.Lines.{is_line_end}
use Rattle.trace_text.specs.ScheduleFaults.{schedule_line_fault}
use Rattle.trace_text.specs.ScheduleLines.{values_of}
use Rattle.trace_text.proofs.Reading.{reading-begins, read_on, at_fault, at_run, at_end, after-shorter}
use Rattle.trace_text.proofs.schedules.read_schedule.Goals as goal

pub loop-rest-init : goal.loop-rest-init
loop-rest-init c = record {
  few = omega arith;
  line = omega arith;
  whole = rw c.new-steps.ensures.items (reading-begins c.args.text.now);
}

pub returns-in-Err-clause-fault : goal.returns-in-Err-clause-fault
returns-in-Err-clause-fault c = λ _.
    let count : length c.loop-rest.steps.items ≡ c.len.result = search rules in
    let some : (length c.loop-rest.rest.now == 0) ≡ false = cc in
    c.loop-rest.invariant.whole
    ∙ at_fault (c.loop-rest.number + 1) c.loop-rest.steps.items c.loop-rest.rest.now c.in-Err.kind some
    (rw (count, ← c.split_line.ensures.line) c.in-Err.ensures)

pub loop-rest-preserved : goal.loop-rest-preserved
loop-rest-preserved c =
    let count : length c.loop-rest.steps.items ≡ c.len.result = search rules in
    let some : (length c.loop-rest.rest.now == 0) ≡ false = cc in
    let read = c.in-Ok.ensures in
    let none : schedule_line_fault (length c.loop-rest.steps.items)
    (values_of (before_first is_line_end c.loop-rest.rest.now))
    ≡ None =
    rw (count, ← c.split_line.ensures.line) read.0 in
    let shorter : length c.split_line.result.1.now + 1 ≤ length c.loop-rest.rest.now =
    rw c.split_line.ensures.after (after-shorter c.loop-rest.rest.now some) in
    record {
      few = omega (arith, read.1, c.in_ok-append_run-in-Ok.ensures.len);
      line = omega (arith, shorter);
      whole =
          c.loop-rest.invariant.whole
          ∙ at_run (c.loop-rest.number + 1) c.loop-rest.steps.items c.append_run.new.steps.items c.loop-rest.rest.now
          c.in-Ok.run' read.2.0 some none
          (rw (← c.split_line.ensures.line) read.2.1) read.2.2 c.in_ok-append_run-in-Ok.ensures.items
          ∙ ap (read_on (c.loop-rest.number + 1 + 1) c.append_run.new.steps.items) (sym c.split_line.ensures.after);
    }

pub returns-clause-steps : goal.returns-clause-steps
returns-clause-steps c = c.loop-rest.invariant.whole
    ∙ at_end (c.loop-rest.number + 1) c.loop-rest.steps.items c.loop-rest.rest.now (cc)
