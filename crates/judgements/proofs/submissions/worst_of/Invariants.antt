-- The worst so far is the worst of those before the place.
use Rattle.judgements.proofs.Worst.{IsWorstBefore}
use Rattle.judgements.proofs.submissions.worst_of.Given as goal

abbrev pub invariant-loop-place : goal.invariant-loop-place
invariant-loop-place l = IsWorstBefore l.cases l.worst l.most l.place
