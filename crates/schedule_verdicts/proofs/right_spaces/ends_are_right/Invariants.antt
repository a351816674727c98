-- Each end among the places so far is right, and then expectations look at registers that a stream has.
use Rattle.std.proofs.Common.{◌<◌, ℕ}
use Rattle.schedule_verdicts.specs.NamedRegisters.{IsOfRegistersAt}
use Rattle.schedule_verdicts.specs.RightSpaces.{IsRightAt}
use Rattle.schedule_verdicts.proofs.right_spaces.ends_are_right.Given as goal

abbrev pub invariant-loop-place : goal.invariant-loop-place
invariant-loop-place g l = record {
  right : (k : ℕ) → k < l.place → IsRightAt l.space l.expected k;
  registers : (k : ℕ) → k < l.place → IsOfRegistersAt l.space l.expected k;
}
