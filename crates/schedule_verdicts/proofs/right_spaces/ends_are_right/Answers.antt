use Rattle.std.proofs.Common.{arith, rules}
use Rattle.schedule_verdicts.specs.NamedRegisters.{IsOfRegistersAt}
use Rattle.schedule_verdicts.specs.RightSpaces.{IsRightAt}
use Rattle.schedule_verdicts.proofs.Every.{below_more}
use Rattle.schedule_verdicts.proofs.right_spaces.ends_are_right.Goals as goal

pub loop-place-preserved : goal.loop-place-preserved
loop-place-preserved g c = record {
  right =
      below_more (IsRightAt c.args.space.now c.args.expected.now) c.loop-place.place c.loop-place.invariant.right
      (c.in_ok-is_right_at.ensures.is.0 (search rules));
  registers =
      below_more (IsOfRegistersAt c.args.space.now c.args.expected.now) c.loop-place.place c.loop-place.invariant.registers
      (c.in_ok-is_right_at.ensures.registers (search rules));
}

pub returns-clause-registers : goal.returns-clause-registers
returns-clause-registers g c = λ yes k below.
    c.loop-place.invariant.registers k
    (omega (arith, below, c.len-place-end.ensures.count, c.loop-place-test.false))
