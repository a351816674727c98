-- What is told of a listed end: how its kind is named, how many worlds it has, and who goes on.
use Rattle.std.specs.Prelude.{ℕ, ◌+◌, ◌-◌, ◌^◌, min, Bool, true, false, List, length, map, filter, codes}
use Rattle.processor.specs.declared.steps.Step.{Step}
use Rattle.end_kinds.specs.Words as words
use Rattle.space_ends.specs.declared.going.Going.{Going}
use Rattle.space_ends.specs.declared.going.Going.TheVariants as going
use Rattle.space_ends.specs.declared.going.GoingStream.{GoingStream}
use Rattle.space_ends.specs.declared.end_values.SpaceEnd.{SpaceEnd}
use Rattle.space_ends.specs.declared.end_values.SpaceEndKind.{SpaceEndKind}
use Rattle.space_ends.specs.declared.end_values.SpaceEndKind.TheVariants as kind

-- in tables
abbrev pub name_of : SpaceEndKind → List ℕ
name_of (kind.End k) = words.name_of k
name_of (kind.Broken claim) = codes "broken"
name_of kind.Busy = codes "broken"

-- in JSON
abbrev pub json_name_of : SpaceEndKind → List ℕ
json_name_of (kind.End k) = words.json_name_of k
json_name_of (kind.Broken claim) = codes "broken"
json_name_of kind.Busy = codes "broken"

-- how many worlds it has, of the space and before it, as far as 64 bits can hold it
abbrev pub worlds_in : SpaceEnd → ℕ
worlds_in e = min (length e.places.items + e.before) (2 ^ 64 - 1)

-- whether a stream can go on in some world
abbrev pub can_run : Going → Bool
can_run going.Runs = true
can_run (going.WaitsFor address) = false
can_run going.Waits = false

-- the streams that can
abbrev pub running_in : List GoingStream → List Step
running_in streams = map (λ (g : GoingStream). g.stream) (filter (λ (g : GoingStream). can_run g.going) streams)
