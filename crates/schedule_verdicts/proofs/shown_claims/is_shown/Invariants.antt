-- No world so far shows the claim.
use Rattle.std.proofs.Common.{◌≡◌, ◌<◌, ℕ, false}
use Rattle.claims.specs.Holding.{shows}
use Rattle.busy_streams.specs.ScheduleSpace.Spaces.{world_of}
use Rattle.schedule_verdicts.proofs.shown_claims.is_shown.Given as goal

abbrev pub invariant-loop-place : goal.invariant-loop-place
invariant-loop-place g l = (k : ℕ) → k < l.place → shows (world_of l.space k) l.marks.claim ≡ false
