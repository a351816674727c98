-- the marks of the ends so far
use Rattle.std.proofs.Common.{◌≡◌, ℕ, ◌<◌, length}
use Rattle.std.specs.List.{HoldsAt}
use Rattle.space_graphs.specs.Ahead.{IsOfEnd}
use Rattle.space_graphs.proofs.ahead.marks_of.Given as goal

abbrev pub invariant-loop-end : goal.invariant-loop-end
invariant-loop-end l = record {
  many : length l.marks.items ≡ l.end-index;
  each : (i : ℕ) → i < l.end-index → HoldsAt (IsOfEnd l.count l.links l.ends i) l.marks.items i;
}
