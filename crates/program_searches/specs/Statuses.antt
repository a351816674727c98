-- The exit status that a search comes to.
use Rattle.std.specs.Prelude.{nat_le, Bool, true, false, ◌&&◌, ◌||◌, if◌then◌else◌, List, [], ◌∷◌, map, Option, Some, None, is_some}
use Rattle.end_kinds.specs.Statuses.{badness}
use Rattle.end_kinds.specs.declared.statuses.Status.{Status}
use Rattle.end_kinds.specs.declared.statuses.Status.TheVariants as status
use Rattle.space_ends.specs.Judging.{end_status}
use Rattle.program_searches.specs.declared.explored.Explored.{Explored}
use Rattle.program_searches.specs.declared.unkept.Unkept.{Unkept}
use Rattle.program_searches.specs.declared.unkept.UnkeptWaits.{UnkeptWaits}
use Rattle.program_searches.specs.declared.unkept.UnkeptWaits.TheVariants as unkept
use Rattle.program_searches.specs.declared.unkept.UnkeptConditions.{UnkeptConditions}
use Rattle.program_searches.specs.declared.unkept.UnkeptConditions.TheVariants as unkept_condition
use Rattle.program_searches.specs.Kept.{unkept_conditions}
use Rattle.program_searches.specs.Waits.{unkept_waits}

-- the worse of two statuses
abbrev pub worse : Status → Status → Status
worse a b = if nat_le (badness b) (badness a) then a else b

-- the worst of one and some others
abbrev pub worst : Status → List Status → Status
worst a [] = a
worst a (b ∷ bs) = worst (worse a b) bs

-- of a search that is complete, or that came to a bound
abbrev pub status_of_bound : Bool → Status
status_of_bound true = status.Done
status_of_bound false = status.OutOfSteps

-- whether a stream is shown to wait forever
abbrev pub is_starved : Option UnkeptWaits → Bool
is_starved None = false
is_starved (Some (unkept.Starved who)) = true
is_starved (Some (unkept.Undecided who)) = false
is_starved (Some (unkept.Unanswered u)) = false
is_starved (Some unkept.RunsAlone) = false

-- whether a run is shown that evades a condition
abbrev pub is_evaded : Option UnkeptConditions → Bool
is_evaded None = false
is_evaded (Some (unkept_condition.Evaded k)) = true
is_evaded (Some (unkept_condition.Undecided k)) = false
is_evaded (Some (unkept_condition.Unanswered u)) = false
is_evaded (Some unkept_condition.RunsAlone) = false

-- whether something of it is known not to be so, by every schedule or by some runs
abbrev pub is_broken : Unkept → Bool → Bool
is_broken u every = is_some u.rule || (every && is_some u.unshown) || (is_starved u.waits || is_evaded u.conditions)

-- whether something of it is not known to be so
abbrev pub is_open : Unkept → Bool
is_open u = is_some u.unshown || is_some u.undecided || (is_some u.waits || is_some u.conditions)

-- of what is required of the program as a whole and is not so, by every schedule or by some runs
abbrev pub status_of_unkept : Unkept → Bool → Status
status_of_unkept u every =
    if is_broken u every then status.Unexpected else (if is_open u then status.OutOfSteps else status.Done)

-- what a search knows not to be so: of a claim that none shows only where it is complete; and what it does not know of who can
-- wait forever and of conditions on runs
abbrev pub unkept_in : Explored → Unkept
unkept_in e = record {
  rule = e.broken_rule;
  unshown = if e.is_complete then e.unshown else None;
  waits = unkept_waits e.waits;
  conditions = unkept_conditions e.kept;
  undecided = None;
}

-- the worst over the bound, the ends, and what is not so of the program as a whole
abbrev pub status_of_search : Explored → Status
status_of_search e =
    worse (worst (status_of_bound e.is_complete) (map end_status e.ends.items)) (status_of_unkept (unkept_in e) true)
