-- the marks so far
use Rattle.std.proofs.Common.{◌≡◌, ℕ, ◌<◌, length, slice_index}
use Rattle.terminal_components.specs.ReachMarks.{IsRoot}
use Rattle.terminal_components.proofs.reach_marks.root_marks.Given as goal

abbrev pub invariant-loop-place : goal.invariant-loop-place
invariant-loop-place l = record {
  many : length l.marks.items ≡ l.place;
  found : (k : ℕ) → k < l.place → slice_index l.marks.items k ≡ 0 → IsRoot l.least l.strays k;
  all : (k : ℕ) → k < l.place → IsRoot l.least l.strays k → slice_index l.marks.items k ≡ 0;
}
