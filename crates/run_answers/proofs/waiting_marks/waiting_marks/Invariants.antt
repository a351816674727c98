-- those of the places so far
use Rattle.run_answers.specs.Waiting.{AreWaitingMarks}
use Rattle.run_answers.proofs.waiting_marks.waiting_marks.Given as goal

abbrev pub invariant-loop-place : goal.invariant-loop-place
invariant-loop-place g l = AreWaitingMarks l.space l.asked l.place l.waits.items l.inside.items
