-- Which ends of a page of all schedules are right.
use Rattle.std.specs.Prelude.{ℕ, ◌==◌, Bool, true, false, not, ◌&&◌, List, Option, Some, None, slice_get}
use Rattle.std.specs.List.{list_any}
use Rattle.end_kinds.specs.declared.kinds.EndKind.{EndKind}
use Rattle.end_kinds.specs.declared.kinds.EndKind.TheVariants as kind
use Rattle.space_ends.specs.EndStates.Judgements.{is_expected}
use Rattle.space_ends.specs.declared.end_values.SpaceEnd.{SpaceEnd}
use Rattle.space_ends.specs.declared.end_values.SpaceEndKind.{SpaceEndKind}
use Rattle.space_ends.specs.declared.end_values.SpaceEndKind.TheVariants as space_kind
use Rattle.end_goals.specs.declared.right_ends.EndCriteria.{EndCriteria}

-- whether no stream runs at ends of this kind, or those that do may wait there or go on so
abbrev pub is_resting : EndKind → Bool
is_resting kind.Finished = true
is_resting kind.Stopped = true
is_resting kind.Deadlock = false
is_resting kind.Waiting = true
is_resting kind.Spinning = false
is_resting kind.Looping = true
is_resting kind.OutOfSteps = false

-- whether an end of this kind is as expected, where no claim is looked at
abbrev pub is_met : EndKind → SpaceEnd → Bool
is_met k e = is_expected (record { kind = k; missed = e.missed; broken = None; is_trapped = e.is_trapped })

-- whether worlds of this kind break a claim
abbrev pub is_breaking : SpaceEndKind → Bool
is_breaking (space_kind.End k) = false
is_breaking (space_kind.Broken claim) = true
is_breaking space_kind.Busy = true

-- whether these are worlds that break a claim, and the one at this place is among them
abbrev pub breaks_at : ℕ → SpaceEnd → Bool
breaks_at place e = is_breaking e.kind && list_any (λ k. k == place) e.places.items

-- whether the world at a place, which may be missing, breaks a claim
abbrev pub is_broken_at : List SpaceEnd → Option ℕ → Bool
is_broken_at ends None = false
is_broken_at ends (Some place) = list_any (λ (e : SpaceEnd). breaks_at place e) ends

-- whether the first world of an end does
abbrev pub breaks_claim : List SpaceEnd → SpaceEnd → Bool
breaks_claim ends e = is_broken_at ends (slice_get e.places.items 0)

-- whether an end, which is of this kind, is right
abbrev pub is_right_kind : List SpaceEnd → SpaceEnd → SpaceEndKind → Bool
is_right_kind ends e (space_kind.End k) = is_resting k && is_met k e && not (breaks_claim ends e)
is_right_kind ends e (space_kind.Broken claim) = false
is_right_kind ends e space_kind.Busy = false

-- Whether an end of these is right by itself: no stream runs, or those that do may wait or go on so, it is as expected, and
-- its first world breaks no claim.
abbrev pub is_right_end : List SpaceEnd → SpaceEnd → Bool
is_right_end ends e = is_right_kind ends e e.kind

-- it, if something is judged
abbrev pub judged_if : Bool → Bool → Option Bool
judged_if false right = None
judged_if true right = Some right

-- Whether an end of these is right, where the rest of what is required is so too; None where nothing is required.
abbrev pub verdict_of : EndCriteria → List SpaceEnd → SpaceEnd → Option Bool
verdict_of c ends e = judged_if c.is_judged (c.keeps_rules && is_right_end ends e)
