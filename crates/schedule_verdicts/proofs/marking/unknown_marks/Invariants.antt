-- The marks of the claims so far.
use Rattle.std.proofs.Common.{◌≡◌, map, take}
use Rattle.schedule_verdicts.specs.ClaimMarks.{marks_for}
use Rattle.schedule_verdicts.proofs.marking.unknown_marks.Given as goal

abbrev pub invariant-loop-place : goal.invariant-loop-place
invariant-loop-place l = l.marks.items ≡ map (marks_for l.space) (take l.place l.claims)
