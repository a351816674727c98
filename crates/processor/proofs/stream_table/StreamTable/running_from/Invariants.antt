-- No used stream between the first place and this one runs.
use Rattle.std.proofs.Common.{◌≡◌, drop}
use Rattle.processor.specs.Turns.{first_running}
use Rattle.processor.proofs.stream_table.StreamTable.running_from.Given as goal

abbrev pub invariant-loop-place : goal.invariant-loop-place
invariant-loop-place g l = first_running (drop l.place l.self) l.place ≡ first_running (drop l.from l.self) l.from
