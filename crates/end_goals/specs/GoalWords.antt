-- Which goal a word says.
use Rattle.std.specs.Prelude.{◌≡◌, ℕ, List, Option, Some, None, Result, Ok, Err, codes}
use Rattle.end_kinds.specs.Words.{json_name_of}
use Rattle.end_kinds.specs.declared.kinds.EndKind.TheVariants as kind
use Rattle.space_ends.specs.Words as ends
use Rattle.space_ends.specs.declared.end_values.SpaceEndKind.TheVariants as space_kind
use Rattle.end_goals.specs.declared.goals.EndGoal.{EndGoal}
use Rattle.end_goals.specs.declared.goals.EndGoal.TheVariants as goal

-- the number of a goal, or else the goal
abbrev pub number_in : EndGoal → Result ℕ EndGoal
number_in (goal.Number n) = Ok n
number_in goal.Right = Err goal.Right
number_in goal.Wrong = Err goal.Wrong
number_in goal.Finished = Err goal.Finished
number_in goal.Stopped = Err goal.Stopped
number_in goal.Deadlock = Err goal.Deadlock
number_in goal.Waiting = Err goal.Waiting
number_in goal.Spinning = Err goal.Spinning
number_in goal.Looping = Err goal.Looping
number_in goal.Broken = Err goal.Broken
number_in goal.Unknown = Err goal.Unknown

-- the name of a goal: that of the kind of its ends, as JSON has it; a number is none
abbrev pub name_of : EndGoal → Option (List ℕ)
name_of (goal.Number n) = None
name_of goal.Right = Some (codes "right")
name_of goal.Wrong = Some (codes "wrong")
name_of goal.Finished = Some (json_name_of kind.Finished)
name_of goal.Stopped = Some (json_name_of kind.Stopped)
name_of goal.Deadlock = Some (json_name_of kind.Deadlock)
name_of goal.Waiting = Some (json_name_of kind.Waiting)
name_of goal.Spinning = Some (json_name_of kind.Spinning)
name_of goal.Looping = Some (json_name_of kind.Looping)
name_of goal.Broken = Some (ends.json_name_of space_kind.Busy)
name_of goal.Unknown = None

-- no goal has a word for its name
abbrev pub IsNoName : List ℕ → Type 0
IsNoName word = (g : EndGoal) → ¬ (name_of g ≡ Some word)
