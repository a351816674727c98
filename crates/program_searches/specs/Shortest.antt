-- Of which ends it is known that no schedule to them is shorter than their own.
use Rattle.std.specs.Prelude.{◌≡◌, ℕ, ◌≤◌, nat_le, ◌==◌, Bool, true, false, IsTrue, ⊤, ◌&&◌, ◌||◌, List, ◌++◌, length}
use Rattle.std.specs.List.{All}
use Rattle.processor.specs.World.{run}
use Rattle.processor.specs.declared.steps.Step.{Step}
use Rattle.end_kinds.specs.declared.kinds.EndKind.{EndKind}
use Rattle.end_kinds.specs.declared.kinds.EndKind.TheVariants as kind
use Rattle.space_ends.specs.ScheduleSpace.Spaces.{SpaceValue, world_of}
use Rattle.space_ends.specs.ScheduleSpace.Reaching.{IsEnd}
use Rattle.space_ends.specs.EndsOfSpace.{ListedEnd}
use Rattle.space_ends.specs.declared.end_values.SpaceEnd.{SpaceEnd}
use Rattle.space_ends.specs.declared.end_values.SpaceEndKind.{SpaceEndKind}
use Rattle.space_ends.specs.declared.end_values.SpaceEndKind.TheVariants as space
use Rattle.program_searches.specs.declared.explored.Explored.{Explored}

-- whether no schedule leads on from the worlds of an end of this kind
abbrev pub is_last : EndKind → Bool
is_last kind.Finished = true
is_last kind.Stopped = true
is_last kind.Deadlock = true
is_last kind.Waiting = true
is_last kind.OutOfSteps = true
is_last kind.Spinning = false
is_last kind.Looping = false

-- by a search for ends: of an end where it has all, never of what spins; of another world where the steps lead there with
-- which all schedules begin
abbrev pub is_shortest_by_ends : SpaceEndKind → Bool → Bool → Bool
is_shortest_by_ends (space.End k) is_complete is_early = is_last k && is_complete
is_shortest_by_ends (space.Broken c) is_complete is_early = is_early
is_shortest_by_ends space.Busy is_complete is_early = is_early

-- By a search of all worlds of each; of the first world of all by any. What counts is the kind of the end, and how many steps
-- its schedule has.
abbrev pub is_shortest_of : Explored → SpaceEndKind → ℕ → Bool
is_shortest_of e kind steps =
    e.is_of_all_worlds || is_shortest_by_ends kind e.is_complete (nat_le steps (length e.space.begin)) || steps == 0

abbrev pub is_shortest : Explored → SpaceEnd → Bool
is_shortest e end = is_shortest_of e end.kind (length end.schedule.items)

-- if the worlds of this kind are ends, the world at this place is one
abbrev pub IsEndAt : SpaceValue → SpaceEndKind → ℕ → Type 0
IsEndAt v (space.End k) place = IsTrue (is_last k) → IsEnd v.image (world_of v place)
IsEndAt v (space.Broken c) place = ⊤
IsEndAt v space.Busy place = ⊤

-- no schedule that goes on from the beginning and leads to the world at this place of the space has fewer steps
abbrev pub IsLeast : SpaceValue → ℕ → ℕ → Type 0
IsLeast v steps place =
    (ts : List Step) → run v.image (v.begin ++ ts) ≡ world_of v place → steps ≤ length (v.begin ++ ts)

-- so it is for each place of a listed end
abbrev pub IsLeastForAll : SpaceValue → ListedEnd → Type 0
IsLeastForAll v l = All (IsLeast v (length l.schedule)) l.places
