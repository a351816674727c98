-- The claim holds of each world so far.
use Rattle.std.proofs.Common.{◌<◌, ℕ}
use Rattle.std.specs.Prelude.{IsTrue}
use Rattle.claims.specs.Holding.{holds}
use Rattle.busy_streams.specs.ScheduleSpace.Spaces.{world_of}
use Rattle.schedule_verdicts.proofs.kept_claims.is_kept.Given as goal

abbrev pub invariant-loop-place : goal.invariant-loop-place
invariant-loop-place g l = (k : ℕ) → k < l.place → IsTrue (holds (world_of l.space k) l.marks.claim)
