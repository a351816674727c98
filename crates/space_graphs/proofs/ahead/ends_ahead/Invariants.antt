-- the numbers of the worlds so far
use Rattle.std.proofs.Common.{◌≡◌, ℕ, ◌<◌, length}
use Rattle.std.specs.List.{HoldsAt}
use Rattle.space_graphs.specs.Ahead.{AreNumbersIn}
use Rattle.space_graphs.proofs.ahead.ends_ahead.Given as goal

abbrev pub invariant-loop-place : goal.invariant-loop-place
invariant-loop-place l = record {
  many : length l.ahead.items ≡ l.place;
  each : (k : ℕ) → k < l.place → HoldsAt (AreNumbersIn l.marks.items k) l.ahead.items k;
}
