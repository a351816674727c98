-- A submission whose status is done is right by each case.
use Rattle.std.proofs.Common.{◌≡◌, ◌≤◌, ℕ, zero, suc, Bool, true, false, List, [], ◌∷◌, Some, slice_get, subst, refl, arith}
use Rattle.std.specs.Prelude.{nat_le, if◌then◌else◌}
use Rattle.std.proofs.lemmas.Bool.{leb-true, leb-false}
use Rattle.std.proofs.lemmas.Option.{same_Some}
use Rattle.end_kinds.specs.Statuses.{badness}
use Rattle.end_kinds.specs.declared.statuses.Status.{Status}
use Rattle.program_searches.specs.Statuses.{worse, worst}
use Rattle.judgements.specs.Known.{is_by_all_runs}
use Rattle.judgements.specs.Statuses.{badness_of_run, status_of_kind, statuses_of}
use Rattle.judgements.specs.declared.case_judgements.CaseJudgement.{CaseJudgement}
use Rattle.judgements.specs.declared.case_judgements.Reason.{Reason}
use Rattle.judgements.specs.declared.case_judgements.Reason.TheVariants as reason
use Rattle.judgements.specs.declared.verdict_kinds.VerdictKind.{VerdictKind}
use Rattle.judgements.specs.declared.verdict_kinds.VerdictKind.TheVariants as verdict

worse_first : (a b : Status) → badness a ≤ badness (worse a b)
worse_first a b = by (nat_le (badness b) (badness a)) refl
  where
    by : (t : Bool) → nat_le (badness b) (badness a) ≡ t → badness a ≤ badness (if t then a else b)
    by true e = omega arith
    by false e = let more = leb-false (badness b) (badness a) e in omega (arith, more)

worse_second : (a b : Status) → badness b ≤ badness (worse a b)
worse_second a b = by (nat_le (badness b) (badness a)) refl
  where
    by : (t : Bool) → nat_le (badness b) (badness a) ≡ t → badness b ≤ badness (if t then a else b)
    by true e = leb-true (badness b) (badness a) e
    by false e = omega arith

-- the worst of one and some others is as bad as the one
as_bad : (a : Status) (js : List CaseJudgement) → badness a ≤ badness (worst a (statuses_of js))
as_bad a [] = omega arith
as_bad a (j ∷ js) =
    let first = worse_first a j.status in
    let rest = as_bad (worse a j.status) js in
    omega (arith, first, rest)

-- and as each of the others
pub as_bad_as_each : (a : Status) (js : List CaseJudgement) (k : ℕ) (j : CaseJudgement) → slice_get js k ≡ Some j
    → badness j.status ≤ badness (worst a (statuses_of js))
as_bad_as_each a [] k j there = absurd (let h : ⊥ = cc in h)
as_bad_as_each a (x ∷ js) zero j there =
    let second = worse_second a x.status in
    let rest = as_bad (worse a x.status) js in
    subst (λ (y : CaseJudgement). badness y.status ≤ badness (worst (worse a x.status) (statuses_of js)))
    (same_Some x j there) (omega (arith, second, rest))
as_bad_as_each a (x ∷ js) (suc k) j there = as_bad_as_each (worse a x.status) js k j there

-- right alone is done
pub right_if_done : (kind : VerdictKind) → badness (status_of_kind kind) ≤ 0 → kind ≡ verdict.Right
right_if_done verdict.NotRead h = absurd (omega (arith, h))
right_if_done verdict.SourceFault h = absurd (omega (arith, h))
right_if_done verdict.Trap h = absurd (omega (arith, h))
right_if_done verdict.Deadlock h = absurd (omega (arith, h))
right_if_done verdict.Wrong h = absurd (omega (arith, h))
right_if_done verdict.Spins h = absurd (omega (arith, h))
right_if_done verdict.RanOutOfSteps h = absurd (omega (arith, h))
right_if_done verdict.NotJudged h = absurd (omega (arith, h))
right_if_done verdict.NotDecided h = absurd (omega (arith, h))
right_if_done verdict.Right h = refl

-- where no single run decides, no end of a run counts
pub no_bad_run : (why : Reason) → is_by_all_runs why ≡ true → badness_of_run why ≡ 0
no_bad_run reason.Looked e = refl
no_bad_run (reason.Run run) e = absurd cc
no_bad_run (reason.End place) e = refl
no_bad_run (reason.NoSchedule claim) e = refl
no_bad_run (reason.Starved x) e = refl
no_bad_run (reason.Evaded v) e = refl
no_bad_run (reason.NoRun claim) e = refl
no_bad_run reason.NoRunCan e = refl
no_bad_run reason.OpenWaits e = refl
no_bad_run reason.OpenConditions e = refl
no_bad_run (reason.Rule rule) e = refl
no_bad_run (reason.Work missed) e = refl
no_bad_run (reason.Absent number fault) e = refl
no_bad_run (reason.Lacking name) e = refl
no_bad_run (reason.NotGiven number) e = refl
