-- Whether all is so is whether the rest is, and so with the registers.
use Rattle.std.proofs.Common.{◌≡◌, drop}
use Rattle.schedule_verdicts.specs.NamedRegisters.{AreOfRegisters}
use Rattle.schedule_verdicts.specs.RightEnds.{are_met}
use Rattle.schedule_verdicts.proofs.right_ends.are_met.Given as goal

abbrev pub invariant-loop-expectation : goal.invariant-loop-expectation
invariant-loop-expectation g l = record {
  met : are_met l.machine.world (drop l.expectation-index l.expected) ≡ are_met l.machine.world l.expected;
  registers : AreOfRegisters (drop l.expectation-index l.expected) → AreOfRegisters l.expected;
}
