-- no mark so far is of this stream
use Rattle.std.proofs.Common.{◌≢◌, ◌<◌, ◌+◌, ◌*◌, ℕ, Some, slice_get}
use Rattle.world_keys.proofs.next_keys.mark_of.Given as goal

abbrev pub invariant-loop-mark : goal.invariant-loop-mark
invariant-loop-mark l = (k : ℕ) → k < l.mark → slice_get l.numbers (2 * k + 1) ≢ Some l.s
