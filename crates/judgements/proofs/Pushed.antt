-- One more case is judged.
use Rattle.std.proofs.Common.{◌≡◌, ◌∙◌, ℕ, ◌+◌, ◌<◌, ◌≤◌, ◌⊎◌, List, [], ◌∷◌, ◌++◌, length, Some, slice_get, get_or}
use Rattle.std.proofs.Common.{sym, subst, ap, arith, inl, inr, length-append}
use Rattle.std.proofs.lemmas.Bool.{cases_lt}
use Rattle.std.proofs.lemmas.List.{get_or_append_left}
use Rattle.std.proofs.lemmas.Option.{same_Some, slice_get-get_or, slice_get_within, get_or_from_slice_get}
use Rattle.std.proofs.Math.Seq.{get_or-append_seam}
use Rattle.image_file.specs.ImageValue.{ImageValue}
use Rattle.judgements.specs.Shown.{IsCaseJudged}
use Rattle.judgements.specs.Verdicts.{AreJudgedBefore}
use Rattle.judgements.specs.declared.cases.Case.{Case}
use Rattle.judgements.specs.declared.cases.AskedJudging.{AskedJudging}
use Rattle.judgements.specs.declared.case_judgements.CaseJudgement.{CaseJudgement}

-- what is read of a list with one element more is of the list, or is that element
read_pushed : {A : Type 0} (xs : List A) (x : A) (k : ℕ) (y : A) → slice_get (xs ++ x ∷ []) k ≡ Some y
    → ((k < length xs) × (slice_get xs k ≡ Some y)) ⊎ ((k ≡ length xs) × (x ≡ y))
read_pushed {A} xs x k y read = by (cases_lt k (length xs))
  where
    longer : List A
    longer = xs ++ x ∷ []

    here : get_or longer k y ≡ y
    here = get_or_from_slice_get longer k y y read

    by : (k < length xs) ⊎ (length xs ≤ k)
        → ((k < length xs) × (slice_get xs k ≡ Some y)) ⊎ ((k ≡ length xs) × (x ≡ y))
    by (inl less) =
        inl (less, slice_get-get_or xs k y less ∙ ap Some (sym (get_or_append_left xs (x ∷ []) y k less) ∙ here))
    by (inr most) =
        let within = slice_get_within longer k y read in
        let long = length-append xs (x ∷ []) in
        let last : k ≡ length xs = omega (arith, within, long, most) in
        inr (last, sym (get_or-append_seam xs x [] y) ∙ ap (λ i. get_or longer i y) (sym last) ∙ here)

pub one_more : (asked : AskedJudging) (image : ImageValue) (text : List ℕ) (cases : List Case)
    (js : List CaseJudgement) (place : ℕ) (case : Case) (j : CaseJudgement) → length js ≡ place
    → AreJudgedBefore asked image text cases js place → slice_get cases place ≡ Some case
    → IsCaseJudged asked image text case j
    → (length (js ++ j ∷ []) ≡ place + 1) × AreJudgedBefore asked image text cases (js ++ j ∷ []) (place + 1)
one_more asked image text cases js place case j count before there judged =
    (let long = length-append js (j ∷ []) in omega (arith, long, count), each)
  where
    each : AreJudgedBefore asked image text cases (js ++ j ∷ []) (place + 1)
    each k d y less read found = by (read_pushed js j k y found)
      where
        by : ((k < length js) × (slice_get js k ≡ Some y)) ⊎ ((k ≡ length js) × (j ≡ y))
            → IsCaseJudged asked image text d y
        by (inl known) = let less = known.0 in before k d y (omega (arith, less, count)) read known.1
        by (inr last) =
            let at = last.0 in
            let same : k ≡ place = omega (arith, at, count) in
            let case_is : case ≡ d =
            same_Some case d (sym there ∙ subst (λ i. slice_get cases i ≡ Some d) same read) in
            subst (λ (v : CaseJudgement). IsCaseJudged asked image text d v) last.1
            (subst (λ (v : Case). IsCaseJudged asked image text v j) case_is judged)
