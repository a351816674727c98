-- The most severe of the first so many judgements.
use Rattle.std.proofs.Common.{◌≡◌, ◌∙◌, ◌+◌, ◌<◌, ◌≤◌, ℕ, List, Some, slice_get, sym, subst, arith}
use Rattle.std.proofs.lemmas.Option.{same_Some}
use Rattle.seed_outcomes.proofs.ScheduleVerdicts.Every.{below_more}
use Rattle.judgements.specs.Severity.{severity_of}
use Rattle.judgements.specs.declared.case_judgements.CaseJudgement.{CaseJudgement}

-- The judgement at a place is this severe, no one of the first so many is more severe, and each earlier one is less severe.
pub record IsWorstBefore (js : List CaseJudgement) (place most count : ℕ) : Type 0 where
  pub worst : CaseJudgement
  pub there : slice_get js place ≡ Some worst
  pub severe : severity_of worst.kind ≡ most
  pub within : place < count
  pub each : (k : ℕ) → k < count → (j : CaseJudgement) → slice_get js k ≡ Some j → severity_of j.kind ≤ most
  pub first : (k : ℕ) → k < place → (j : CaseJudgement) → slice_get js k ≡ Some j → severity_of j.kind < most

-- a judgement at a place is as severe as it is there
there_severe : (js : List CaseJudgement) (place severity : ℕ) (x : CaseJudgement) → slice_get js place ≡ Some x
    → severity_of x.kind ≡ severity → (j : CaseJudgement) → slice_get js place ≡ Some j
    → severity_of j.kind ≡ severity
there_severe js place severity x there severe j read =
    subst (λ (v : CaseJudgement). severity_of v.kind ≡ severity) (same_Some x j (sym there ∙ read)) severe

pub first_one : (js : List CaseJudgement) (most : ℕ) (x : CaseJudgement) → slice_get js 0 ≡ Some x
    → severity_of x.kind ≡ most → IsWorstBefore js 0 most 1
first_one js most x there severe = record {
  worst = x;
  there = there;
  severe = severe;
  within = omega arith;
  each = below_more (λ k. (j : CaseJudgement) → slice_get js k ≡ Some j → severity_of j.kind ≤ most) 0
      (λ k less j read. absurd (omega (arith, less)))
      (λ j read. let same = there_severe js 0 most x there severe j read in omega (arith, same));
  first = λ k less j read. absurd (omega (arith, less));
}

pub older : (js : List CaseJudgement) (place most count severity : ℕ) (x : CaseJudgement)
    → IsWorstBefore js place most count → slice_get js count ≡ Some x → severity_of x.kind ≡ severity
    → severity ≤ most → IsWorstBefore js place most (count + 1)
older js place most count severity x before there severe less = record {
  worst = before.worst;
  there = before.there;
  severe = before.severe;
  within = let within = before.within in omega (arith, within);
  each = below_more (λ k. (j : CaseJudgement) → slice_get js k ≡ Some j → severity_of j.kind ≤ most) count before.each
      (λ j read. let same = there_severe js count severity x there severe j read in omega (arith, same, less));
  first = before.first;
}

pub newer : (js : List CaseJudgement) (place most count severity : ℕ) (x : CaseJudgement)
    → IsWorstBefore js place most count → slice_get js count ≡ Some x → severity_of x.kind ≡ severity
    → most < severity → IsWorstBefore js count severity (count + 1)
newer js place most count severity x before there severe more = record {
  worst = x;
  there = there;
  severe = severe;
  within = omega arith;
  each = below_more (λ k. (j : CaseJudgement) → slice_get js k ≡ Some j → severity_of j.kind ≤ severity) count
      (λ k less j read. let low = before.each k less j read in omega (arith, low, more))
      (λ j read. let same = there_severe js count severity x there severe j read in omega (arith, same));
  first = λ k less j read. let low = before.each k less j read in omega (arith, low, more);
}
