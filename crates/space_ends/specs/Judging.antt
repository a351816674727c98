-- When a listed end is as expected.
use Rattle.std.specs.Prelude.{Bool, true, false, Option, Some, None}
use Rattle.end_kinds.specs.declared.statuses.Status.{Status}
use Rattle.end_kinds.specs.declared.statuses.Status.TheVariants as status
use Rattle.end_states.specs.Judgements.{is_expected, status_of_judged}
use Rattle.end_states.specs.declared.judgements.EndJudgement.{EndJudgement}
use Rattle.space_ends.specs.declared.end_values.SpaceEnd.{SpaceEnd}
use Rattle.space_ends.specs.declared.end_values.SpaceEndKind.{SpaceEndKind}
use Rattle.space_ends.specs.declared.end_values.SpaceEndKind.TheVariants as kind

-- whether they are ends, or worlds from which none can be reached
abbrev pub is_end_kind : SpaceEndKind → Bool
is_end_kind (kind.End k) = true
is_end_kind (kind.Broken claim) = false
is_end_kind kind.Busy = false

-- how an end with these fields is judged that is of this kind
abbrev pub judgement_as : SpaceEndKind → SpaceEnd → Option EndJudgement
judgement_as (kind.End k) e =
    Some (record { kind = k; missed = e.missed; broken = e.broken; is_trapped = e.is_trapped })
judgement_as (kind.Broken claim) e = None
judgement_as kind.Busy e = None

-- how a listed end is judged; nothing of worlds that break a claim
abbrev pub judgement_of : SpaceEnd → Option EndJudgement
judgement_of e = judgement_as e.kind e

-- whether what is judged so is as expected; nothing that breaks a claim is
abbrev pub expected_by : Option EndJudgement → Bool
expected_by None = false
expected_by (Some j) = is_expected j

abbrev pub expected_end : SpaceEnd → Bool
expected_end e = expected_by (judgement_of e)

-- what it means for the exit status; worlds that break a claim are not as expected
abbrev pub status_by : Option EndJudgement → Status
status_by None = status.Unexpected
status_by (Some j) = status_of_judged j

abbrev pub end_status : SpaceEnd → Status
end_status e = status_by (judgement_of e)
