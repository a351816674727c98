-- What decides a verdict by seeds, where it is called not decided in place of right.
use Rattle.std.proofs.Common.{◌≡◌, ℕ, Bool, true, false, List, Option, Some, None, inl, inr, refl, sym, ap, ◌∙◌}
use Rattle.std.specs.Prelude.{IsTrue, if◌then◌else◌}
use Rattle.seed_outcomes.specs.SeedVerdictsTypes.RunFlaw.{RunFlaw}
use Rattle.seed_outcomes.specs.SeedVerdictsTypes.RunFlaw.TheVariants as run_flaw
use Rattle.schedule_makers.specs.declared.made.MadeEnd.{MadeEnd}
use Rattle.schedule_makers.specs.declared.made.MadeEnd.TheVariants as made_end
use Rattle.seed_outcomes.specs.SpaceEndsTypes.SpaceEnd.{SpaceEnd}
use Rattle.judgements.specs.Flaws.{kind_of_run, kind_of_work, kind_of_end}
use Rattle.judgements.specs.Known.{is_open, is_by_all_runs, comes_with_seeds}
use Rattle.judgements.specs.Shown.{JudgedAs, IsLeftOpen, IsShownFor}
use Rattle.judgements.specs.declared.case_judgements.Reason.{Reason}
use Rattle.judgements.specs.declared.case_judgements.Reason.TheVariants as reason
use Rattle.judgements.specs.declared.end_flaws.EndFlaw.{EndFlaw}
use Rattle.judgements.specs.declared.end_flaws.EndFlaw.TheVariants as flaw
use Rattle.judgements.specs.declared.verdict_kinds.VerdictKind.{VerdictKind}
use Rattle.judgements.specs.declared.verdict_kinds.VerdictKind.TheVariants as verdict

-- no flaw is right

pub run_is_wrong : (f : RunFlaw) → verdict.Right ≡ kind_of_run f → ⊥
run_is_wrong run_flaw.Trap e = cc
run_is_wrong run_flaw.Deadlock e = cc
run_is_wrong (run_flaw.Missed expectation) e = cc
run_is_wrong (run_flaw.Broken taken claim) e = cc
run_is_wrong run_flaw.OutOfSteps e = cc

pub work_is_wrong : (end : MadeEnd) → verdict.Right ≡ kind_of_work end → ⊥
work_is_wrong made_end.NobodyRuns e = cc
work_is_wrong made_end.Standstill e = cc
work_is_wrong made_end.OutOfSteps e = cc

pub end_is_wrong : (f : EndFlaw) → verdict.Right ≡ kind_of_end f → ⊥
end_is_wrong flaw.Trap e = cc
end_is_wrong flaw.Deadlock e = cc
end_is_wrong flaw.Wrong e = cc
end_is_wrong flaw.Broken e = cc
end_is_wrong flaw.Spinning e = cc

-- so what decides that a program is right decides as well that it is not known to be, if a search left it open
pub as_not_decided : (p : JudgedAs) (ends : List SpaceEnd) (why : Reason) → IsLeftOpen p.limits p.image p.required
    → IsShownFor p ends verdict.Right why → IsShownFor p ends verdict.NotDecided why
as_not_decided p ends reason.Looked left h = inr (refl, left)
as_not_decided p ends (reason.Run run) left h = absurd (run_is_wrong run.flaw h.verdict)
as_not_decided p ends (reason.End place) left h = absurd (end_is_wrong h.flaw h.verdict)
as_not_decided p ends (reason.NoSchedule claim) left h = let e = h.verdict in absurd cc
as_not_decided p ends (reason.Starved x) left h = let e = h.verdict in absurd cc
as_not_decided p ends (reason.Evaded v) left h = let e = h.verdict in absurd cc
as_not_decided p ends (reason.NoRun claim) left h = let e = h.verdict in absurd cc
as_not_decided p ends reason.NoRunCan left h = let e = h.verdict in absurd cc
as_not_decided p ends reason.OpenWaits left h = let e = h.verdict in absurd cc
as_not_decided p ends reason.OpenConditions left h = let e = h.verdict in absurd cc
as_not_decided p ends (reason.Rule rule) left h = let e = h.verdict in absurd cc
as_not_decided p ends (reason.Work missed) left h = absurd (work_is_wrong missed.end h.verdict)
as_not_decided p ends (reason.Absent number fault) left h = absurd h
as_not_decided p ends (reason.Lacking name) left h = absurd h
as_not_decided p ends (reason.NotGiven number) left h = absurd h

-- what a search left open is not decided by what was looked at
pub as_looked : (p : JudgedAs) (ends : List SpaceEnd) → IsLeftOpen p.limits p.image p.required
    → IsShownFor p ends verdict.NotDecided reason.Looked
as_looked p ends left = inr (refl, left)

-- a claim is known to be unshown only by a complete search

pub is_complete : (complete : Bool) (unshown : Option ℕ) (claim : ℕ)
    → (if complete then unshown else None) ≡ Some claim → IsTrue complete
is_complete true unshown claim e = refl
is_complete false unshown claim e = absurd cc

pub is_unshown : (complete : Bool) (unshown : Option ℕ) (claim : ℕ)
    → (if complete then unshown else None) ≡ Some claim → unshown ≡ Some claim
is_unshown true unshown claim e = e
is_unshown false unshown claim e = absurd cc

-- and no flaw leaves anything open

run_is_shut : (f : RunFlaw) → is_open (kind_of_run f) ≡ true → ⊥
run_is_shut run_flaw.Trap e = cc
run_is_shut run_flaw.Deadlock e = cc
run_is_shut (run_flaw.Missed expectation) e = cc
run_is_shut (run_flaw.Broken taken claim) e = cc
run_is_shut run_flaw.OutOfSteps e = cc

work_is_shut : (end : MadeEnd) → is_open (kind_of_work end) ≡ true → ⊥
work_is_shut made_end.NobodyRuns e = cc
work_is_shut made_end.Standstill e = cc
work_is_shut made_end.OutOfSteps e = cc

end_is_shut : (f : EndFlaw) → is_open (kind_of_end f) ≡ true → ⊥
end_is_shut flaw.Trap e = cc
end_is_shut flaw.Deadlock e = cc
end_is_shut flaw.Wrong e = cc
end_is_shut flaw.Broken e = cc
end_is_shut flaw.Spinning e = cc

-- so what is left open is by all that was looked at, or by what no run shows
pub left_by_all : (p : JudgedAs) (ends : List SpaceEnd) (kind : VerdictKind) (why : Reason) → is_open kind ≡ true
    → IsShownFor p ends kind why → is_by_all_runs why ≡ true
left_by_all p ends kind reason.Looked e h = refl
left_by_all p ends kind (reason.Run run) e h = absurd (run_is_shut run.flaw (ap is_open (sym h.verdict) ∙ e))
left_by_all p ends kind (reason.End place) e h = absurd (end_is_shut h.flaw (ap is_open (sym h.verdict) ∙ e))
left_by_all p ends kind (reason.NoSchedule claim) e h =
    let shut : false ≡ true = ap is_open (sym h.verdict) ∙ e in absurd cc
left_by_all p ends kind (reason.Starved x) e h =
    let shut : false ≡ true = ap is_open (sym h.verdict) ∙ e in absurd cc
left_by_all p ends kind (reason.Evaded v) e h =
    let shut : false ≡ true = ap is_open (sym h.verdict) ∙ e in absurd cc
left_by_all p ends kind (reason.NoRun claim) e h = refl
left_by_all p ends kind reason.NoRunCan e h = refl
left_by_all p ends kind reason.OpenWaits e h = refl
left_by_all p ends kind reason.OpenConditions e h = refl
left_by_all p ends kind (reason.Rule rule) e h =
    let shut : false ≡ true = ap is_open (sym h.verdict) ∙ e in absurd cc
left_by_all p ends kind (reason.Work missed) e h =
    absurd (work_is_shut missed.end (ap is_open (sym h.verdict) ∙ e))
left_by_all p ends kind (reason.Absent number fault) e h = absurd h
left_by_all p ends kind (reason.Lacking name) e h = absurd h
left_by_all p ends kind (reason.NotGiven number) e h = absurd h

-- and with what is not left open come the same seeds, whether lines ask who does the work or not
pub same_seeds : (p : JudgedAs) (ends : List SpaceEnd) (kind : VerdictKind) (why : Reason) (works : Bool)
    → is_open kind ≡ false → IsShownFor p ends kind why → (first : Bool)
    → comes_with_seeds first false kind why ≡ comes_with_seeds first works kind why
same_seeds p ends kind reason.Looked works e (inl right) first =
    let wide : true ≡ false = ap is_open (sym right) ∙ e in absurd cc
same_seeds p ends kind reason.Looked works e (inr left) first =
    let wide : true ≡ false = ap is_open (sym left.0) ∙ e in absurd cc
same_seeds p ends kind (reason.Run run) works e h first = refl
same_seeds p ends kind (reason.End place) works e h first = refl
same_seeds p ends kind (reason.NoSchedule claim) works e h first = refl
same_seeds p ends kind (reason.Starved x) works e h first = refl
same_seeds p ends kind (reason.Evaded v) works e h first = refl
same_seeds p ends kind (reason.NoRun claim) works e h first = refl
same_seeds p ends kind reason.NoRunCan works e h first = refl
same_seeds p ends kind reason.OpenWaits works e h first = refl
same_seeds p ends kind reason.OpenConditions works e h first = refl
same_seeds p ends kind (reason.Rule rule) works e h first = refl
same_seeds p ends kind (reason.Work missed) works e h first = refl
same_seeds p ends kind (reason.Absent number fault) works e h first = refl
same_seeds p ends kind (reason.Lacking name) works e h first = refl
same_seeds p ends kind (reason.NotGiven number) works e h first = refl
