-- What verdicts mean for the exit status.
use Rattle.std.specs.Prelude.{◌≡◌, ◌≤◌, ℕ, max, false, List, map, None}
use Rattle.end_kinds.specs.Statuses.{badness}
use Rattle.end_kinds.specs.declared.statuses.Status.{Status}
use Rattle.end_kinds.specs.declared.statuses.Status.TheVariants as status
use Rattle.seed_outcomes.specs.EndStates.Judgements.{status_of_judged}
use Rattle.judgements.specs.declared.cases.AskedJudging.{AskedJudging}
use Rattle.judgements.specs.declared.case_judgements.Reason.{Reason}
use Rattle.judgements.specs.declared.case_judgements.Reason.TheVariants as reason
use Rattle.judgements.specs.declared.verdict_kinds.VerdictKind.{VerdictKind}
use Rattle.judgements.specs.declared.verdict_kinds.VerdictKind.TheVariants as verdict
use Rattle.judgements.specs.declared.case_judgements.CaseJudgement.{CaseJudgement}

-- what a verdict means for the exit status; right alone is done
abbrev pub status_of_kind : VerdictKind → Status
status_of_kind verdict.NotRead = status.Unexpected
status_of_kind verdict.SourceFault = status.Unexpected
status_of_kind verdict.Trap = status.Unexpected
status_of_kind verdict.Deadlock = status.Deadlock
status_of_kind verdict.Wrong = status.Unexpected
status_of_kind verdict.RanOutOfSteps = status.OutOfSteps
status_of_kind verdict.Spins = status.OutOfSteps
status_of_kind verdict.NotJudged = status.OutOfSteps
status_of_kind verdict.NotDecided = status.OutOfSteps
status_of_kind verdict.Right = status.Done

-- a judgement's status is as bad as its verdict means, or worse: a search may have found a worse end
abbrev pub IsAsBadAsKind : CaseJudgement → Type 0
IsAsBadAsKind j = badness (status_of_kind j.kind) ≤ badness j.status

-- the statuses of judgements, in their order
abbrev pub statuses_of : List CaseJudgement → List Status
statuses_of js = map (λ (j : CaseJudgement). j.status) js

-- how bad the end of the run is that decides, if one does
abbrev pub badness_of_run : Reason → ℕ
badness_of_run reason.Looked = 0
badness_of_run (reason.Run run) = badness (status_of_judged run.end.judgement)
badness_of_run (reason.End place) = 0
badness_of_run (reason.NoSchedule claim) = 0
badness_of_run (reason.Starved x) = 0
badness_of_run (reason.Evaded e) = 0
badness_of_run (reason.NoRun claim) = 0
badness_of_run reason.NoRunCan = 0
badness_of_run reason.OpenWaits = 0
badness_of_run reason.OpenConditions = 0
badness_of_run (reason.Rule rule) = 0
badness_of_run (reason.Work missed) = 0
badness_of_run (reason.Absent number fault) = 0
badness_of_run (reason.Lacking name) = 0
badness_of_run (reason.NotGiven number) = 0

-- If no search is asked for, nor the outcomes of all seeds, the status is the worse of what the verdict means and of what the end
-- of the run means that decides.
abbrev pub IsStatusByRuns : AskedJudging → CaseJudgement → Type 0
IsStatusByRuns asked j = asked.explored ≡ None → asked.counts_all ≡ false
    → badness j.status ≡ max (badness (status_of_kind j.kind)) (badness_of_run j.reason)

-- For the code.

-- the same before what the verdict means counts
abbrev pub IsStatusOfRun : AskedJudging → CaseJudgement → Type 0
IsStatusOfRun asked j = asked.explored ≡ None → asked.counts_all ≡ false → badness j.status ≡ badness_of_run j.reason
