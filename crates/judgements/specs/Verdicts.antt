-- What is known of a submission by all cases.
use Rattle.std.specs.Prelude.{◌≡◌, ◌<◌, ◌≤◌, ℕ, true, List, [], ◌∷◌, Option, Some, None, length, slice_get, if◌then◌else◌}
use Rattle.image_file.specs.ImageValue.{ImageValue}
use Rattle.judgements.specs.Severity.{severity_of}
use Rattle.judgements.specs.Known.{is_right_kind, known_by, together}
use Rattle.judgements.specs.Right.{IsRightCase}
use Rattle.judgements.specs.Shown.{IsCaseJudged}
use Rattle.judgements.specs.declared.cases.Case.{Case}
use Rattle.judgements.specs.declared.cases.AskedJudging.{AskedJudging}
use Rattle.judgements.specs.declared.case_judgements.CaseJudgement.{CaseJudgement}
use Rattle.judgements.specs.declared.knowledge.Known.{Known}
use Rattle.judgements.specs.declared.submissions.SubmissionJudgement.{SubmissionJudgement}
use Rattle.judgements.specs.declared.verdict_kinds.VerdictKind.{VerdictKind}

-- the submission is judged by each of the first so many cases
abbrev pub AreJudgedBefore : AskedJudging → ImageValue → List ℕ → List Case → List CaseJudgement → ℕ → Type 0
AreJudgedBefore asked image text cases js count =
    (k : ℕ) (case : Case) (j : CaseJudgement) → k < count → slice_get cases k ≡ Some case → slice_get js k ≡ Some j
    → IsCaseJudged asked image text case j

-- A submission of this image and text is judged by each case, one judgement a case, in their order.
pub record AreCasesJudged (asked : AskedJudging) (image : ImageValue) (text : List ℕ) (cases : List Case)
    (js : List CaseJudgement) : Type 0 where
  pub some : 0 < length cases
  pub count : length js ≡ length cases
  pub each : (k : ℕ) (case : Case) (j : CaseJudgement) → slice_get cases k ≡ Some case → slice_get js k ≡ Some j
      → IsCaseJudged asked image text case j

-- it is right by each case
abbrev pub AreRightCases : AskedJudging → ImageValue → List ℕ → List Case → Type 0
AreRightCases asked image text cases =
    (k : ℕ) (case : Case) → slice_get cases k ≡ Some case → IsRightCase asked image text case

-- No judgement is more severe than the one at this place, and each earlier one is less severe.
pub record IsWorst (js : List CaseJudgement) (place : ℕ) : Type 0 where
  pub worst : CaseJudgement
  pub there : slice_get js place ≡ Some worst
  pub most : (k : ℕ) (j : CaseJudgement) → slice_get js k ≡ Some j → severity_of j.kind ≤ severity_of worst.kind
  pub first : (k : ℕ) (j : CaseJudgement) → slice_get js k ≡ Some j → k < place
      → severity_of j.kind < severity_of worst.kind

-- this is what a submission is by the judgement at a place
abbrev pub IsKindAt : List CaseJudgement → ℕ → VerdictKind → Type 0
IsKindAt js place kind = (j : CaseJudgement) × (slice_get js place ≡ Some j) × (kind ≡ j.kind)

-- what is known by no case: there is none of which not every schedule was looked at
abbrev pub of_no_case : Known
of_no_case = record { worlds = None; is_every = true; bound = None; seeds = None }

-- what is known by some first cases and these together
abbrev pub known_of_all : Known → List CaseJudgement → Known
known_of_all known [] = known
known_of_all known (j ∷ js) = known_of_all (together known j.known) js

abbrev pub known_of_case : Option CaseJudgement → Known
known_of_case None = known_by None None
known_of_case (Some j) = j.known

-- what is known of a submission: by all cases together, if it is right, and else by the one that decides
abbrev pub known_in : SubmissionJudgement → Known
known_in s =
    if is_right_kind s.kind then known_of_all of_no_case s.cases.items
    else known_of_case (slice_get s.cases.items s.worst)
