-- The digits that are still to come, and those in place behind them, are all digits.
use Rattle.std.proofs.Common.{◌≡◌, ◌≤◌, ◌++◌, length, drop}
use Rattle.text_parts.specs.Digits.{fixed_digits}
use Rattle.text_parts.proofs.digits.decimal_digits.Given as goal

abbrev pub invariant-loop-place : goal.invariant-loop-place
invariant-loop-place g l = record {
  long : length l.digits ≡ g.row.COUNT;
  bound : l.place ≤ length l.digits;
  whole : fixed_digits 10 l.place l.rest ++ drop l.place l.digits ≡ fixed_digits 10 g.row.COUNT l.fn.number;
}

abbrev pub decreases-loop-place : goal.decreases-loop-place
decreases-loop-place g l = l.place
