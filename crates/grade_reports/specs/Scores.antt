-- The points of a submission.
use Rattle.std.specs.Prelude.{ℕ, ◌+◌, List, [], ◌∷◌, Option, Some, None, unwrap_or}
use Rattle.grade_rows.specs.JudgementsTypes.VerdictKind.{VerdictKind}
use Rattle.grade_rows.specs.JudgementsTypes.VerdictKind.TheVariants as verdict
use Rattle.lab_requests.specs.declared.requests.Undecided.{Undecided}
use Rattle.lab_requests.specs.declared.requests.Undecided.TheVariants as undecided
use Rattle.grade_rows.specs.declared.rows.CaseRow.{CaseRow}

-- the score of a case with so many points that is not decided
abbrev pub undecided_score : Undecided → ℕ → Option ℕ
undecided_score undecided.Unscored points = None
undecided_score undecided.Right points = Some points
undecided_score undecided.Wrong points = Some 0

-- the score by a case with so many points: all of them where the submission is right, and none where it is not right; what is
-- not judged has no score
abbrev pub score_of : Undecided → VerdictKind → ℕ → Option ℕ
score_of u verdict.Right points = Some points
score_of u verdict.NotDecided points = undecided_score u points
score_of u verdict.NotJudged points = None
score_of u verdict.NotRead points = Some 0
score_of u verdict.SourceFault points = Some 0
score_of u verdict.Trap points = Some 0
score_of u verdict.Deadlock points = Some 0
score_of u verdict.Wrong points = Some 0
score_of u verdict.RanOutOfSteps points = Some 0
score_of u verdict.Spins points = Some 0

-- the sum of the scores by cases
abbrev pub earned_points : Undecided → List CaseRow → ℕ
earned_points u [] = 0
earned_points u (c ∷ cs) = unwrap_or (score_of u c.kind c.points) 0 + earned_points u cs

-- the points of a case by which there is this score, as far as they are in no score
abbrev pub unscored_by : Option ℕ → ℕ → ℕ
unscored_by None points = points
unscored_by (Some score) points = 0

-- the sum of the points of cases by which there is no score
abbrev pub unscored_points : Undecided → List CaseRow → ℕ
unscored_points u [] = 0
unscored_points u (c ∷ cs) = unscored_by (score_of u c.kind c.points) c.points + unscored_points u cs
