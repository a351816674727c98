use Rattle.std.proofs.Common.{arith}
use Rattle.world_keys.proofs.next_keys.mark_of.Goals as goal

pub returns-clause-none : goal.returns-clause-none
returns-clause-none c = λ _ k below is.
    c.loop-mark.invariant k (omega (arith, below, c.loop-mark-test.false, c.saturating_sub-marks.ensures)) is
