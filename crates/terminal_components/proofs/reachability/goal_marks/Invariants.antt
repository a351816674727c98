-- the goals so far are marked
use Rattle.std.proofs.Common.{◌≡◌, ℕ, ◌<◌, length, slice_index, Contains}
use Rattle.terminal_components.proofs.reachability.goal_marks.Given as goal

abbrev pub invariant-loop-goal : goal.invariant-loop-goal
invariant-loop-goal l = record {
  many : length l.marks.items ≡ l.count;
  found : (k : ℕ) → k < l.count → slice_index l.marks.items k ≡ 0 → Contains l.goals k;
  all :
      (k i : ℕ) → k < l.count → i < l.goal-index → slice_index l.goals i ≡ k → slice_index l.marks.items k ≡ 0;
}
