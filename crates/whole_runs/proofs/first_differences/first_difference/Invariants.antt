-- The first machine is at the position; then both are, and the worlds differ at none so far.
use Rattle.whole_runs.proofs.Positions.{IsAt, AreAlikeTo}
use Rattle.whole_runs.proofs.first_differences.first_difference.Given as goal

abbrev pub invariant-loop-place : goal.invariant-loop-place
invariant-loop-place g l = IsAt l.image l.one l.place l.first

abbrev pub invariant-loop-index : goal.invariant-loop-index
invariant-loop-index g l = record {
  first : IsAt l.image l.one l.index l.first;
  second : IsAt l.image l.other l.index l.second;
  alike : AreAlikeTo l.image l.one l.other l.index;
}
