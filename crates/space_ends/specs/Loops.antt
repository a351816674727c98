-- The listed ends of streams that loop alone.
use Rattle.std.specs.Prelude.{ℕ, Bool, true, false, List, [], ◌∷◌, IsTrue, filter, map, replicate}
use Rattle.std.specs.List.{All}
use Rattle.processor.specs.declared.steps.Step.{Step}
use Rattle.seed_verdicts.specs.ScheduleSpace.Spaces.{SpaceValue, schedule_of}
use Rattle.space_ends.specs.Judging.{is_end_kind}
use Rattle.space_ends.specs.declared.end_values.SpaceEnd.{SpaceEnd}
use Rattle.space_ends.specs.declared.end_values.SpaceEndKind.{SpaceEndKind}
use Rattle.space_ends.specs.declared.end_values.SpaceEndKind.TheVariants as kind

-- What is known of an end where a stream loops alone: where it is, how a schedule leads there, and the steps of the loop.
pub record LoopingEnd : Type 0 where
  pub kind : SpaceEndKind
  pub places : List ℕ
  pub schedule : List Step
  pub cycle : List Step

abbrev pub looping_of : SpaceEnd → LoopingEnd
looping_of e = record {
  kind = e.kind;
  places = e.places.items;
  schedule = e.schedule.items;
  cycle = e.cycle.items;
}

-- whether a stream loops alone from the world of this kind
abbrev pub is_busy_kind : SpaceEndKind → Bool
is_busy_kind (kind.End k) = false
is_busy_kind (kind.Broken claim) = false
is_busy_kind kind.Busy = true

-- those of some listed ends where a stream loops alone
abbrev pub busy_in : List SpaceEnd → List LoopingEnd
busy_in ends = filter (λ e. is_busy_kind e.kind) (map looping_of ends)

-- the end of a stream that loops alone from the world at a place in so many steps: that world, its schedule, and as many
-- steps of the stream
abbrev pub loop_of : SpaceValue → ℕ → Step → ℕ → LoopingEnd
loop_of v place stream steps = record {
  kind = kind.Busy;
  places = place ∷ [];
  schedule = schedule_of v place;
  cycle = replicate steps stream;
}

-- For the code.

-- all are ends, or sets that spin
abbrev pub AreAllEnds : List SpaceEnd → Type 0
AreAllEnds ends = All (λ e. IsTrue (is_end_kind e.kind)) ends
