-- So many streams below the place are not idle.
use Rattle.std.proofs.Common.{◌≡◌, ◌≤◌, take}
use Rattle.processor.specs.Processors.{count_current}
use Rattle.processor.proofs.stream_table.StreamTable.current_among.Given as goal

abbrev pub invariant-loop-place : goal.invariant-loop-place
invariant-loop-place g l = (l.current ≡ count_current (take l.place l.self)) × (l.current ≤ l.place)
