-- What rows begin with, one after the other.
use Rattle.std.proofs.Common.{◌≡◌, ◌∙◌, ◌<◌, List, [], ◌∷◌, ◌++◌, length, sym, arith, append-nil}
use Rattle.submission_rows.specs.Rows.{CaseHead, heads_of}
use Rattle.grade_rows.specs.JudgementsTypes.Case.{Case}
use Rattle.grade_rows.specs.JudgementsTypes.CaseJudgement.{CaseJudgement}

-- no judgement is left
pub at_end : (cs : List Case) (js : List CaseJudgement) (found all : List CaseHead) → length js < 1
    → found ++ heads_of cs js ≡ all → found ≡ all
at_end [] [] found all short same = sym (append-nil found) ∙ same
at_end (c ∷ cs) [] found all short same = sym (append-nil found) ∙ same
at_end [] (j ∷ js) found all short same = absurd (omega (arith, short))
at_end (c ∷ cs) (j ∷ js) found all short same = absurd (omega (arith, short))
