use Rattle.std.proofs.Common.{◌≡◌, ◌++◌, replicate, string_bytes}
use Rattle.std.specs.List.{flat_map}
use Rattle.trace_text.specs.Runs.{schedule_line}
use Rattle.trace_text.proofs.written_schedules.write_run.Given as goal

abbrev pub invariant-loop-full : goal.invariant-loop-full
invariant-loop-full l =
    string_bytes l.text
    ≡ string_bytes l.initial.text
    ++ flat_map schedule_line (replicate l._full (record { thing = l.step; times = 1000000 }))
