-- those of the questions so far
use Rattle.starving_streams.specs.Reports.{HasAllStates}
use Rattle.run_answers.proofs.Pushing.{AreFirstAnswers}
use Rattle.run_answers.proofs.deciding.answers_of.Given as goal

abbrev pub invariant-loop-number : goal.invariant-loop-number
invariant-loop-number g l =
    HasAllStates l.space → AreFirstAnswers l.space.image l.space.begin l.rests l.asked l.number l.answers.items
