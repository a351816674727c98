use Rattle.std.proofs.Common.{◌≡◌, ◌+◌, ◌-◌, ◌^◌, ◌≤◌, length}
use Rattle.std.specs.Prelude.{min}
use Rattle.grade_reports.specs.Scores.{unscored_points}
use Rattle.grade_reports.proofs.case_scores.unscored_points.Given as goal

-- what had no score, and what of the cases to come has none
abbrev pub invariant-loop-rest : goal.invariant-loop-rest
invariant-loop-rest l = record {
  sum :
      min (l.unscored + unscored_points l.undecided l.rest) (2 ^ 64 - 1)
      ≡ min (unscored_points l.undecided l.cases) (2 ^ 64 - 1);
  within : l.unscored ≤ 2 ^ 64 - 1;
}

abbrev pub decreases-loop-rest : goal.decreases-loop-rest
decreases-loop-rest l = length l.rest
