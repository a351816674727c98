-- the places so far
use Rattle.std.proofs.Common.{◌≡◌, ◌↔◌, ℕ, ◌<◌, length, slice_index}
use Rattle.terminal_components.specs.Reachability.{IsMarked}
use Rattle.terminal_components.proofs.reachability.mark_bits.Given as goal

abbrev pub invariant-loop-mark : goal.invariant-loop-mark
invariant-loop-mark l = record {
  many : length l.are.items ≡ l.mark-index;
  each : (k : ℕ) → k < l.mark-index → IsMarked l.are.items k ↔ (slice_index l.marks k ≡ 0);
}
