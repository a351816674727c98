-- Which end is a first goal.
use Rattle.std.specs.Prelude.{ℕ, ◌-◌, ◌==◌, nat_lt, Bool, true, false, not, ◌&&◌, ◌||◌, if◌then◌else◌, List, length, Option, Some, None}
use Rattle.std.specs.List.{position}
use Rattle.end_kinds.specs.declared.kinds.EndKind.TheVariants as kind
use Rattle.space_ends.specs.declared.end_values.SpaceEnd.{SpaceEnd}
use Rattle.space_ends.specs.declared.end_values.SpaceEndKind.{SpaceEndKind}
use Rattle.space_ends.specs.declared.end_values.SpaceEndKind.TheVariants as space_kind
use Rattle.end_goals.specs.RightEnds.{is_breaking, verdict_of}
use Rattle.end_goals.specs.declared.right_ends.EndCriteria.{EndCriteria}
use Rattle.end_goals.specs.declared.goals.EndGoal.{EndGoal}
use Rattle.end_goals.specs.declared.goals.EndGoal.TheVariants as goal

-- whether it is known, and so
abbrev pub is_yes : Option Bool → Bool
is_yes None = false
is_yes (Some b) = b

-- whether it is known, and not so
abbrev pub is_no : Option Bool → Bool
is_no None = false
is_no (Some b) = not b

-- whether no stream runs, and none was stopped by a trap
abbrev pub is_finished : SpaceEndKind → Bool
is_finished (space_kind.End kind.Finished) = true
is_finished (space_kind.End other) = false
is_finished (space_kind.Broken claim) = false
is_finished space_kind.Busy = false

-- whether no stream runs, and some was stopped by a trap
abbrev pub is_stopped : SpaceEndKind → Bool
is_stopped (space_kind.End kind.Stopped) = true
is_stopped (space_kind.End other) = false
is_stopped (space_kind.Broken claim) = false
is_stopped space_kind.Busy = false

-- whether it is a deadlock
abbrev pub is_deadlock : SpaceEndKind → Bool
is_deadlock (space_kind.End kind.Deadlock) = true
is_deadlock (space_kind.End other) = false
is_deadlock (space_kind.Broken claim) = false
is_deadlock space_kind.Busy = false

-- whether streams wait there as they may
abbrev pub is_waiting : SpaceEndKind → Bool
is_waiting (space_kind.End kind.Waiting) = true
is_waiting (space_kind.End other) = false
is_waiting (space_kind.Broken claim) = false
is_waiting space_kind.Busy = false

-- whether some stream runs forever
abbrev pub is_spinning : SpaceEndKind → Bool
is_spinning (space_kind.End kind.Spinning) = true
is_spinning (space_kind.End other) = false
is_spinning (space_kind.Broken claim) = false
is_spinning space_kind.Busy = false

-- whether some stream runs forever, and may
abbrev pub is_looping : SpaceEndKind → Bool
is_looping (space_kind.End kind.Looping) = true
is_looping (space_kind.End other) = false
is_looping (space_kind.Broken claim) = false
is_looping space_kind.Busy = false

-- whether an end of these is a goal, by what it is; a number says nothing of that
abbrev pub is_goal : EndGoal → EndCriteria → List SpaceEnd → SpaceEnd → Bool
is_goal (goal.Number n) c ends e = false
is_goal goal.Unknown c ends e = false
is_goal goal.Right c ends e = is_yes (verdict_of c ends e)
is_goal goal.Wrong c ends e = is_finished e.kind && is_no (verdict_of c ends e)
is_goal goal.Finished c ends e = is_finished e.kind
is_goal goal.Stopped c ends e = is_stopped e.kind
is_goal goal.Deadlock c ends e = is_deadlock e.kind
is_goal goal.Waiting c ends e = is_waiting e.kind
is_goal goal.Spinning c ends e = is_spinning e.kind
is_goal goal.Looping c ends e = is_looping e.kind
is_goal goal.Broken c ends e = is_breaking e.kind

-- the place of a number that counts from 1, among so many
abbrev pub place_of_number : ℕ → ℕ → Option ℕ
place_of_number n count = if n == 0 || nat_lt count n then None else Some (n - 1)

-- the place of the first end that is a goal
abbrev pub first_place : EndGoal → EndCriteria → List SpaceEnd → Option ℕ
first_place g c ends = position (λ (e : SpaceEnd). is_goal g c ends e) ends

-- The place of the end that is a goal: the one of its number, or the first that is one.
abbrev pub place_of_goal : EndGoal → EndCriteria → List SpaceEnd → Option ℕ
place_of_goal (goal.Number n) c ends = place_of_number n (length ends)
place_of_goal goal.Unknown c ends = None
place_of_goal goal.Right c ends = first_place goal.Right c ends
place_of_goal goal.Wrong c ends = first_place goal.Wrong c ends
place_of_goal goal.Finished c ends = first_place goal.Finished c ends
place_of_goal goal.Stopped c ends = first_place goal.Stopped c ends
place_of_goal goal.Deadlock c ends = first_place goal.Deadlock c ends
place_of_goal goal.Waiting c ends = first_place goal.Waiting c ends
place_of_goal goal.Spinning c ends = first_place goal.Spinning c ends
place_of_goal goal.Looping c ends = first_place goal.Looping c ends
place_of_goal goal.Broken c ends = first_place goal.Broken c ends
