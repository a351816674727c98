-- Each of the marks so far is set.
use Rattle.std.proofs.Common.{◌<◌, ℕ}
use Rattle.busy_streams.specs.ScheduleSpace.Reaching.{IsMarked}
use Rattle.schedule_verdicts.proofs.right_spaces.all_can_end.Given as goal

abbrev pub invariant-loop-place : goal.invariant-loop-place
invariant-loop-place l = (k : ℕ) → k < l.place → IsMarked l.marks.items k
