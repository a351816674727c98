use Rattle.grade_reports.specs.Scores.{unscored_points}
use Rattle.grade_reports.proofs.Sums.{at_end_unscored}
use Rattle.grade_reports.proofs.case_scores.unscored_points.Goals as goal

pub returns : goal.returns
returns c = at_end_unscored c.args.undecided c.loop-rest.rest.now c.loop-rest.unscored
    (unscored_points c.args.undecided c.args.cases.now) c.in_default.len_below c.loop-rest.invariant.within
    c.loop-rest.invariant.sum
