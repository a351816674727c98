-- Each of the streams that were looked at does not run, or may wait where it stands.
use Rattle.std.proofs.Common.{◌<◌, ℕ}
use Rattle.std.specs.Prelude.{IsTrue}
use Rattle.processor.specs.declared.steps.Step.{Step}
use Rattle.expectations.specs.Meeting.{stream_in}
use Rattle.schedule_verdicts.specs.RightEnds.{is_rest_expected}
use Rattle.schedule_verdicts.proofs.expected_waits.are_waits_expected.Given as goal

abbrev pub invariant-loop-p : goal.invariant-loop-p
invariant-loop-p g l =
    (t : Step) → t.p < l.p → IsTrue (is_rest_expected l.expected t.p t.s (stream_in l.machine.world t.p t.s))

abbrev pub invariant-loop-s : goal.invariant-loop-s
invariant-loop-s g l =
    (n : ℕ) → n < l.s → IsTrue (is_rest_expected l.expected l.p n (stream_in l.machine.world l.p n))
