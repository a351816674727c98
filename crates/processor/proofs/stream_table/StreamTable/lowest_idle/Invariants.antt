-- No used stream below the place is idle.
use Rattle.std.proofs.Common.{◌≡◌, ℕ, ◌<◌, false}
use Rattle.processor.specs.Processors.{is_idle, stream_at}
use Rattle.processor.proofs.stream_table.StreamTable.lowest_idle.Given as goal

abbrev pub invariant-loop-place : goal.invariant-loop-place
invariant-loop-place g l = (k : ℕ) → k < l.place → is_idle (stream_at l.self k) ≡ false
