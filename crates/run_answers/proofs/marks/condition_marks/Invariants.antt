-- those of the places so far
use Rattle.run_answers.specs.Marks.{AreConditionMarks}
use Rattle.run_answers.proofs.marks.condition_marks.Given as goal

abbrev pub invariant-loop-place : goal.invariant-loop-place
invariant-loop-place g l = AreConditionMarks l.space l.asked l.place l.within.items l.begins.items
