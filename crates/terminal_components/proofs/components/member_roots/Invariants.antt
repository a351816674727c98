-- the places so far
use Rattle.std.proofs.Common.{◌≡◌, ◌≢◌, ℕ, ◌<◌, length, slice_index, slice_index_or, Some, None}
use Rattle.terminal_components.proofs.components.member_roots.Given as goal

abbrev pub invariant-loop-place : goal.invariant-loop-place
invariant-loop-place l = record {
  many : length l.roots.items ≡ l.place;
  marked :
      (k : ℕ) → k < l.place → slice_index l.marks k ≡ 0
      → slice_index_or l.roots.items k None ≡ Some (slice_index l.least k);
  others : (k : ℕ) → k < l.place → slice_index l.marks k ≢ 0 → slice_index_or l.roots.items k None ≡ None;
}
