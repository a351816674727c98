-- The walk is one through the space, and the marks are of the same claims.
use Rattle.std.proofs.Common.{◌≡◌}
use Rattle.schedule_verdicts.proofs.marking.mark_all.Given as goal

abbrev pub invariant-loop-visited : goal.invariant-loop-visited
invariant-loop-visited g l = record {
  walk : l.walk.space ≡ l.space;
  marks : l.marks ≡ l.initial.marks;
}
