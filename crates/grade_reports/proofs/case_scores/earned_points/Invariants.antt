use Rattle.std.proofs.Common.{◌≡◌, ◌+◌, ◌-◌, ◌^◌, ◌≤◌, length}
use Rattle.std.specs.Prelude.{min}
use Rattle.grade_reports.specs.Scores.{earned_points}
use Rattle.grade_reports.proofs.case_scores.earned_points.Given as goal

-- what was earned, and what the cases to come earn
abbrev pub invariant-loop-rest : goal.invariant-loop-rest
invariant-loop-rest l = record {
  sum :
      min (l.earned + earned_points l.undecided l.rest) (2 ^ 64 - 1)
      ≡ min (earned_points l.undecided l.cases) (2 ^ 64 - 1);
  within : l.earned ≤ 2 ^ 64 - 1;
}

abbrev pub decreases-loop-rest : goal.decreases-loop-rest
decreases-loop-rest l = length l.rest
