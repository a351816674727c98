use Rattle.std.proofs.Common.{◌≡◌, ◌∙◌, ◌++◌, sym, ap, arith, string_bytes, Some, drop}
use Rattle.std.specs.List.{slice_get}
use Rattle.std.specs.Option.{option_copied}
use Rattle.trace_text.specs.Runs.{schedule_run_text, schedule_text}
use Rattle.trace_text.proofs.RunsInFront.{run_written, all_written, some-front}
use Rattle.trace_text.proofs.written_schedules.write_schedule.Goals as goal

pub loop-first-preserved : goal.loop-first-preserved
loop-first-preserved c =
    let first : slice_get c.loop-first.rest.now 0 ≡ Some c.in-Some.first.now = sym c.first.ensures.value
    ∙ ap option_copied c.in-Some.is in
    let added = c.in_ok-write_run.ensures
    ∙ ap (λ n. string_bytes c.loop-first.text
    ++ schedule_run_text (record { thing = c.in-Some.first.now; times = n }))
    c.run_length-times.ensures.count in
    ap (λ ts. string_bytes c.write_run.new.text ++ schedule_text ts)
    (c.split_at.ensures.back ∙ ap (λ n. drop n c.loop-first.rest.now) c.run_length-times.ensures.count)
    ∙ run_written c.in-Some.first.now c.loop-first.rest.now (string_bytes c.loop-first.text)
    (string_bytes c.write_run.new.text) (schedule_text c.args.steps.now)
    first added c.loop-first.invariant

pub loop-first-smaller : goal.loop-first-smaller
loop-first-smaller c =
    let first : slice_get c.loop-first.rest.now 0 ≡ Some c.in-Some.first.now = sym c.first.ensures.value
    ∙ ap option_copied c.in-Some.is in
    let some = some-front c.in-Some.first.now c.loop-first.rest.now first in
    omega (arith, some.0, some.1, c.run_length-times.ensures.count, c.split_at.ensures.back_len)

pub returns : goal.returns
returns c =
    all_written c.loop-first.rest.now (string_bytes c.loop-first.text) (schedule_text c.args.steps.now)
    (sym c.first.ensures.value ∙ ap option_copied c.in_default.is) c.loop-first.invariant
