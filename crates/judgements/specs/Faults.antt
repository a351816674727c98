-- Why a submission is not judged.
use Rattle.std.specs.Prelude.{◌≡◌, ◌⊎◌, ⊤, ℕ, List, [], Option, Some, None, Err, IsSome, IsTrue, slice_get}
use Rattle.image_file.specs.ImageValue.{ImageValue}
use Rattle.lab_requests.specs.declared.requests.Bounds.{Bounds}
use Rattle.expectation_files.specs.Faults.{is_of_form}
use Rattle.expectation_files.specs.declared.faults.FileFault.{FileFault}
use Rattle.expectation_files.specs.declared.faults.FileFault.TheVariants as file
use Rattle.program_searches.specs.declared.searches.SearchFault.{SearchFault}
use Rattle.program_searches.specs.declared.searches.SearchFault.TheVariants as search_fault
use Rattle.judgements.specs.Cases.{program_by, said_by, said_in_case}
use Rattle.judgements.specs.declared.cases.Case.{Case}
use Rattle.judgements.specs.declared.cases.AskedJudging.{AskedJudging}
use Rattle.judgements.specs.declared.judge_faults.CaseFault.{CaseFault}
use Rattle.judgements.specs.declared.judge_faults.CaseFault.TheVariants as case_fault
use Rattle.judgements.specs.declared.judge_faults.JudgeFault.{JudgeFault}
use Rattle.judgements.specs.declared.judge_faults.JudgeFault.TheVariants as fault

-- the text of a case has this fault, which is none of a program, read for the program that the case makes of a submission, by
-- the names of the submission or by those of the case
abbrev pub HasFault : ImageValue → List ℕ → Case → FileFault → Type 0
HasFault image text case f =
    IsTrue (is_of_form f)
    × ((said_by case (program_by image text case) text ≡ Err f)
    ⊎ (said_in_case case (program_by image text case) text ≡ Err f))

-- a search is asked for whose time is bounded
abbrev pub IsTimed : Option Bounds → Type 0
IsTimed None = ⊥
IsTimed (Some bounds) = IsSome bounds.seconds

-- The text of the case at this place has this fault.
pub record IsFaultAt (image : ImageValue) (text : List ℕ) (cases : List Case) (place : ℕ) (f : FileFault) : Type 0 where
  pub case : Case
  pub there : slice_get cases place ≡ Some case
  pub fault : HasFault image text case f

-- Why a submission of this image and text is not judged by these cases: there is none, or the text of one has a fault; and the
-- clock is read only where the time is bounded. Memory may be refused at any time.
abbrev pub IsJudgeFault : AskedJudging → ImageValue → List ℕ → List Case → JudgeFault → Type 0
IsJudgeFault asked image text cases fault.NoCase = cases ≡ []
IsJudgeFault asked image text cases (fault.Expectations place f) = IsFaultAt image text cases place f
IsJudgeFault asked image text cases fault.NoMemory = ⊤
IsJudgeFault asked image text cases (fault.Clock e) = IsTimed asked.explored

-- For the code.

-- why it is not judged by one case
abbrev pub IsCaseFault : AskedJudging → ImageValue → List ℕ → Case → CaseFault → Type 0
IsCaseFault asked image text case (case_fault.Expectations f) = HasFault image text case f
IsCaseFault asked image text case case_fault.NoMemory = ⊤
IsCaseFault asked image text case (case_fault.Clock e) = IsTimed asked.explored

-- why the lines of a case are not judged of a program of this image, with the text of a submission
abbrev pub IsLinesFault : Option Bounds → ImageValue → List ℕ → Case → CaseFault → Type 0
IsLinesFault explored image text case (case_fault.Expectations f) =
    IsTrue (is_of_form f) × (said_in_case case image text ≡ Err f)
IsLinesFault explored image text case case_fault.NoMemory = ⊤
IsLinesFault explored image text case (case_fault.Clock e) = IsTimed explored

-- why a program is not judged that is searched so far
abbrev pub IsSearchFault : Option Bounds → CaseFault → Type 0
IsSearchFault explored (case_fault.Expectations f) = ⊥
IsSearchFault explored case_fault.NoMemory = ⊤
IsSearchFault explored (case_fault.Clock e) = IsTimed explored

-- a fault of a search, as why a program is not judged
abbrev pub IsBySearch : SearchFault → CaseFault → Type 0
IsBySearch search_fault.NoMemory f = f ≡ case_fault.NoMemory
IsBySearch (search_fault.Clock e) f = f ≡ case_fault.Clock e

-- a fault of a case's text, as why a submission is not judged by the case
abbrev pub IsByFile : FileFault → CaseFault → Type 0
IsByFile file.NoMemory f = f ≡ case_fault.NoMemory
IsByFile file.Empty f = f ≡ case_fault.Expectations file.Empty
IsByFile (file.Line number l) f = f ≡ case_fault.Expectations (file.Line number l)

-- why a submission is not judged by the case at this place, as why it is not judged
abbrev pub IsAtCase : ℕ → CaseFault → JudgeFault → Type 0
IsAtCase place (case_fault.Expectations f) g = g ≡ fault.Expectations place f
IsAtCase place case_fault.NoMemory g = g ≡ fault.NoMemory
IsAtCase place (case_fault.Clock e) g = g ≡ fault.Clock e
