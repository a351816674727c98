-- No stream so far is idle.
use Rattle.std.proofs.Common.{slice_get}
use Rattle.step_views.proofs.Seeing.{NoneIdleBelow}
use Rattle.step_views.proofs.seen.lowest_idle.Given as goal

abbrev pub invariant-loop-s : goal.invariant-loop-s
invariant-loop-s g l = NoneIdleBelow (slice_get l.machine.world.processors l.p) l.s
