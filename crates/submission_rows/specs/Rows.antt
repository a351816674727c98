-- The rows of the cases of a submission.
use Rattle.std.specs.Prelude.{ℕ, Bool, List, [], ◌∷◌, map}
use Rattle.end_kinds.specs.declared.statuses.Status.{Status}
use Rattle.expectation_files.specs.Marks.{marks_in}
use Rattle.grade_rows.specs.JudgementsTypes.Case.{Case}
use Rattle.grade_rows.specs.JudgementsTypes.CaseJudgement.{CaseJudgement}
use Rattle.grade_rows.specs.JudgementsTypes.VerdictKind.{VerdictKind}
use Rattle.grade_rows.specs.declared.rows.CaseRow.{CaseRow}

-- what a row of a case begins with
pub record CaseHead : Type 0 where
  pub kind : VerdictKind
  pub points : ℕ
  pub is_hidden : Bool
  pub status : Status

-- by the judgement and the file of expectations of a case
abbrev pub head_of : Case → CaseJudgement → CaseHead
head_of c j = record {
  kind = j.kind;
  points = (marks_in c.expected.items).points;
  is_hidden = (marks_in c.expected.items).is_hidden;
  status = j.status;
}

-- one for each case and its judgement, in their order
abbrev pub heads_of : List Case → List CaseJudgement → List CaseHead
heads_of [] js = []
heads_of (c ∷ cs) [] = []
heads_of (c ∷ cs) (j ∷ js) = head_of c j ∷ heads_of cs js

abbrev pub head_in : CaseRow → CaseHead
head_in r = record { kind = r.kind; points = r.points; is_hidden = r.is_hidden; status = r.status }

abbrev pub heads_in : List CaseRow → List CaseHead
heads_in rs = map head_in rs
