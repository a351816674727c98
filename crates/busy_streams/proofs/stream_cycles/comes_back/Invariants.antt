-- None so far is that of the stream.
use Rattle.std.proofs.Common.{◌≡◌, ◌≢◌, ℕ, ◌<◌, Some, slice_get}
use Rattle.busy_streams.specs.declared.stream_cycles.OwnCycles.{OwnCycles}
use Rattle.busy_streams.proofs.stream_cycles.comes_back.Given as goal

abbrev pub invariant-loop-number : goal.invariant-loop-number
invariant-loop-number l =
    (i : ℕ) (r : OwnCycles) → i < l.number → slice_get l.cycles i ≡ Some r → r.stream ≢ l.stream
