-- A submission whose most severe judgement says right, or whose status is done, is right by each case.
use Rattle.std.proofs.Common.{◌≡◌, ◌∙◌, ◌<◌, ◌≤◌, ℕ, List, Some, slice_get, sym, subst, ap, arith, length, get_or, refl}
use Rattle.std.proofs.lemmas.Option.{same_Some, slice_get-get_or, slice_get_within}
use Rattle.image_file.specs.ImageValue.{ImageValue}
use Rattle.end_kinds.specs.Statuses.{badness}
use Rattle.end_kinds.specs.declared.statuses.Status.{Status}
use Rattle.end_kinds.specs.declared.statuses.Status.TheVariants as status
use Rattle.program_searches.specs.Statuses.{worst}
use Rattle.judgements.specs.Severity.{severity_of}
use Rattle.judgements.specs.Shown.{IsCaseJudged}
use Rattle.judgements.specs.Statuses.{status_of_kind, statuses_of}
use Rattle.judgements.specs.Verdicts.{AreCasesJudged, AreRightCases, IsWorst, IsKindAt}
use Rattle.judgements.specs.declared.cases.Case.{Case}
use Rattle.judgements.specs.declared.cases.AskedJudging.{AskedJudging}
use Rattle.judgements.specs.declared.case_judgements.CaseJudgement.{CaseJudgement}
use Rattle.judgements.specs.declared.verdict_kinds.VerdictKind.{VerdictKind}
use Rattle.judgements.specs.declared.verdict_kinds.VerdictKind.TheVariants as verdict
use Rattle.judgements.proofs.Statuses.{as_bad_as_each, right_if_done}

-- right alone is not severe at all
not_severe : (kind : VerdictKind) → severity_of kind ≤ 0 → kind ≡ verdict.Right
not_severe verdict.NotRead h = absurd (omega (arith, h))
not_severe verdict.SourceFault h = absurd (omega (arith, h))
not_severe verdict.Trap h = absurd (omega (arith, h))
not_severe verdict.Deadlock h = absurd (omega (arith, h))
not_severe verdict.Wrong h = absurd (omega (arith, h))
not_severe verdict.Spins h = absurd (omega (arith, h))
not_severe verdict.RanOutOfSteps h = absurd (omega (arith, h))
not_severe verdict.NotJudged h = absurd (omega (arith, h))
not_severe verdict.NotDecided h = absurd (omega (arith, h))
not_severe verdict.Right h = refl

module _ (asked : AskedJudging) (image : ImageValue) (text : List ℕ) (cases : List Case) (js : List CaseJudgement)
    (place : ℕ) (judged : AreCasesJudged asked image text cases js) (most : IsWorst js place) where
  -- each case has a judgement
  judgement : (k : ℕ) (case : Case) → slice_get cases k ≡ Some case → (j : CaseJudgement) × (slice_get js k ≡ Some j)
  judgement k case there =
      let less = slice_get_within cases k case there in
      let within : k < length js = omega (arith, less, judged.count) in
      (get_or js k most.worst, slice_get-get_or js k most.worst within)

  pub all_right : (kind : VerdictKind) → IsKindAt js place kind → kind ≡ verdict.Right → AreRightCases asked image text cases
  all_right kind at right k case there = (judged.each k case j there here).known.right (not_severe j.kind none)
    where
      j : CaseJudgement
      j = (judgement k case there).0

      here : slice_get js k ≡ Some j
      here = (judgement k case there).1

      worst_is : most.worst.kind ≡ verdict.Right
      worst_is =
          ap (λ (x : CaseJudgement). x.kind) (same_Some most.worst at.0 (sym most.there ∙ at.1)) ∙ sym at.2 ∙ right

      none : severity_of j.kind ≤ 0
      none = subst (λ (v : VerdictKind). severity_of j.kind ≤ severity_of v) worst_is (most.most k j here)

  pub all_done : (s : Status) → s ≡ worst status.Done (statuses_of js) → s ≡ status.Done
      → AreRightCases asked image text cases
  all_done s is done k case there = case_judged.known.right (right_if_done j.kind none)
    where
      j : CaseJudgement
      j = (judgement k case there).0

      here : slice_get js k ≡ Some j
      here = (judgement k case there).1

      case_judged : IsCaseJudged asked image text case j
      case_judged = judged.each k case j there here

      not_bad : badness j.status ≤ 0
      not_bad = subst (λ (v : Status). badness j.status ≤ badness v) (sym is ∙ done)
          (as_bad_as_each status.Done js k j here)

      none : badness (status_of_kind j.kind) ≤ 0
      none = let as_bad = case_judged.status in omega (arith, as_bad, not_bad)
