-- Which line of a file of expectations is not met.
use Rattle.std.specs.Prelude.{ℕ, List, Option, Some, None, slice_get}
use Rattle.end_kinds.specs.declared.kinds.EndKind.{EndKind}
use Rattle.end_kinds.specs.declared.kinds.EndKind.TheVariants as kind
use Rattle.seed_outcomes.specs.SpaceEndsTypes.SpaceEnd.{SpaceEnd}
use Rattle.seed_outcomes.specs.SpaceEndsTypes.SpaceEndKind.{SpaceEndKind}
use Rattle.seed_outcomes.specs.SpaceEndsTypes.SpaceEndKind.TheVariants as space_end
use Rattle.seed_outcomes.specs.SeedVerdictsTypes.RunFlaw.{RunFlaw}
use Rattle.seed_outcomes.specs.SeedVerdictsTypes.RunFlaw.TheVariants as run_flaw
use Rattle.judgements.specs.declared.case_judgements.MissedLine.{MissedLine}
use Rattle.judgements.specs.declared.case_judgements.MissedLine.TheVariants as line
use Rattle.judgements.specs.declared.case_judgements.Reason.{Reason}
use Rattle.judgements.specs.declared.case_judgements.Reason.TheVariants as reason
use Rattle.judgements.specs.declared.case_judgements.CaseJudgement.{CaseJudgement}

-- the expectation at a place, as the line that says it
abbrev pub expectation_at : Option ℕ → Option MissedLine
expectation_at None = None
expectation_at (Some place) = Some (line.End place)

-- of an end of this kind the first expectation that it misses; none of a set that spins, which does not end
abbrev pub missed_at_kind : EndKind → Option ℕ → Option MissedLine
missed_at_kind kind.Finished missed = expectation_at missed
missed_at_kind kind.Stopped missed = expectation_at missed
missed_at_kind kind.Deadlock missed = expectation_at missed
missed_at_kind kind.Waiting missed = expectation_at missed
missed_at_kind kind.Spinning missed = None
missed_at_kind kind.Looping missed = None
missed_at_kind kind.OutOfSteps missed = expectation_at missed

-- of an end of all schedules: the first expectation that it misses, or the line that its worlds break
abbrev pub missed_at_end : SpaceEndKind → Option ℕ → Option MissedLine
missed_at_end (space_end.End k) missed = missed_at_kind k missed
missed_at_end (space_end.Broken claim) missed = Some (line.Claim claim)
missed_at_end space_end.Busy missed = Some line.Busy

-- of a run with a flaw: the claim that is broken on its way, the expectation that it misses, or else the first one that its
-- end does
abbrev pub missed_in_run : RunFlaw → Option ℕ → Option MissedLine
missed_in_run run_flaw.Trap missed = expectation_at missed
missed_in_run run_flaw.Deadlock missed = expectation_at missed
missed_in_run (run_flaw.Missed expectation) missed = Some (line.End expectation)
missed_in_run (run_flaw.Broken taken claim) missed = Some (line.Claim claim)
missed_in_run run_flaw.OutOfSteps missed = expectation_at missed

abbrev pub missed_at : Option SpaceEnd → Option MissedLine
missed_at None = None
missed_at (Some end) = missed_at_end end.kind end.missed

abbrev pub missed_for : List SpaceEnd → Reason → Option MissedLine
missed_for ends reason.Looked = None
missed_for ends (reason.Run run) = missed_in_run run.flaw run.end.judgement.missed
missed_for ends (reason.End place) = missed_at (slice_get ends place)
missed_for ends (reason.NoSchedule claim) = Some (line.Claim claim)
missed_for ends (reason.Starved x) = Some line.Starved
missed_for ends (reason.Evaded e) = Some (line.Condition e.place)
missed_for ends (reason.NoRun claim) = Some (line.Claim claim)
missed_for ends reason.NoRunCan = Some line.Busy
missed_for ends reason.OpenWaits = Some line.Starved
missed_for ends reason.OpenConditions = Some (line.Condition 0)
missed_for ends (reason.Rule place) = Some (line.Rule place)
missed_for ends (reason.Work w) = Some (line.Work w.rule)
missed_for ends (reason.Absent number fault) = Some (line.Absent number fault)
missed_for ends (reason.Lacking name) = None
missed_for ends (reason.NotGiven number) = None

-- the line that is not met by what decides
abbrev pub missed_by : CaseJudgement → Option MissedLine
missed_by j = missed_for j.ends.items j.reason
