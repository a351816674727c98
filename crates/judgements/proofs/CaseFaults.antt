-- Why a submission is not judged by the case at a place is why it is not judged.
use Rattle.std.proofs.Common.{◌≡◌, ℕ, List, Some, slice_get, sym, subst}
use Rattle.image_file.specs.ImageValue.{ImageValue}
use Rattle.judgements.specs.Faults.{IsAtCase, IsCaseFault, IsJudgeFault}
use Rattle.judgements.specs.declared.cases.AskedJudging.{AskedJudging}
use Rattle.judgements.specs.declared.cases.Case.{Case}
use Rattle.judgements.specs.declared.judge_faults.CaseFault.{CaseFault}
use Rattle.judgements.specs.declared.judge_faults.CaseFault.TheVariants as case_fault
use Rattle.judgements.specs.declared.judge_faults.JudgeFault.{JudgeFault}

pub fault_at_case : (asked : AskedJudging) (image : ImageValue) (text : List ℕ) (cases : List Case) (place : ℕ) (case : Case)
    (f : CaseFault) (g : JudgeFault) → slice_get cases place ≡ Some case → IsCaseFault asked image text case f
    → IsAtCase place f g → IsJudgeFault asked image text cases g
fault_at_case asked image text cases place case (case_fault.Expectations f) g there has is =
    subst (λ (x : JudgeFault). IsJudgeFault asked image text cases x) (sym is)
    (record { case = case; there = there; fault = has })
fault_at_case asked image text cases place case case_fault.NoMemory g there has is =
    subst (λ (x : JudgeFault). IsJudgeFault asked image text cases x) (sym is) (tt {0})
fault_at_case asked image text cases place case (case_fault.Clock e) g there has is =
    subst (λ (x : JudgeFault). IsJudgeFault asked image text cases x) (sym is) has
