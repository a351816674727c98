-- Which streams that loop alone a search lists.
use Rattle.std.specs.Prelude.{◌≡◌, ◌↔◌, ℕ, IsTrue, IsFalse, IsSome, IsNone, List, [], ◌∷◌}
use Rattle.processor.specs.declared.steps.Step.{Step}
use Rattle.space_ends.specs.BusyStreams.Busy.{IsNeverBusy}
use Rattle.space_ends.specs.BusyStreams.BusySpaces.{HasNoneBusy, IsFirstBusy}
use Rattle.space_ends.specs.Loops.{LoopingEnd, busy_in, loop_of}
use Rattle.space_ends.specs.ScheduleSpace.Spaces.{SpaceValue}
use Rattle.program_searches.specs.declared.explored.Explored.{Explored}
use Rattle.program_searches.specs.declared.searches.ProgramSearch.{ProgramSearch}

-- The end is that of the first world of a space from which a stream loops alone, of the first such stream there, and of its
-- shortest loop.
pub record IsFirstLoop (v : SpaceValue) (l : LoopingEnd) : Type 0 where
  pub place : ℕ
  pub stream : Step
  pub steps : ℕ
  pub first : IsFirstBusy v (record { place = place; stream = stream; steps = steps })
  pub is : l ≡ loop_of v place stream steps

-- No end, and no stream loops alone from any world of the space; or one, the first.
abbrev pub AreFirstLoops : SpaceValue → List LoopingEnd → Type 0
AreFirstLoops v [] = HasNoneBusy v
AreFirstLoops v (l ∷ []) = IsFirstLoop v l
AreFirstLoops v (l ∷ m ∷ ls) = ⊥

-- What a search lists of streams that loop alone.
pub record ListsLoops (asked : ProgramSearch) (e : Explored) : Type 0 where
  -- If no stream is to loop alone, a complete search lists the first one that does, if one does.
  pub first : IsSome asked.required.now.never_busy → IsTrue e.is_complete → AreFirstLoops e.space (busy_in e.ends.items)
  -- Then it lists none exactly if none does, wherever a schedule leads.
  pub never : IsSome asked.required.now.never_busy → IsTrue e.is_complete
      → (busy_in e.ends.items ≡ []) ↔ IsNeverBusy e.space.image e.space.begin
  -- If that is not required, it lists none.
  pub unasked : IsNone asked.required.now.never_busy → busy_in e.ends.items ≡ []
  -- One that is not complete lists none.
  pub unknown : IsFalse e.is_complete → busy_in e.ends.items ≡ []
