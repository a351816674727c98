-- The schedule of a memory's history and of records.
use Rattle.std.specs.Prelude.{ℕ, ◌≡◌, ◌≤◌, ◌+◌, List, [], ◌∷◌, Some, true, map, length, slice_get}
use Rattle.processor.specs.World.{World, run}
use Rattle.processor.specs.Histories.{replay, steps_of}
use Rattle.processor.specs.Weave.{IsWeave}
use Rattle.processor.specs.Records.{RecordValue, any_runs}
use Rattle.processor.specs.declared.steps.Step.{Step}
use Rattle.shared_history.specs.SharedMemory.{SharedValue}

-- the schedule, with the memory and the records that it ends in
pub record WovenValue : Type 0 where
  pub schedule : List Step
  pub shared : SharedValue
  pub records : List RecordValue

-- the lists of the records' steps
abbrev pub step_lists : List RecordValue → List (List ℕ)
step_lists records = map (λ (r : RecordValue). r.steps) records

-- how many steps the records have together
abbrev pub count_steps : List RecordValue → ℕ
count_steps [] = 0
count_steps (r ∷ rs) = length r.steps + count_steps rs

-- the world that memory and records are
abbrev pub gathered_world : SharedValue → List RecordValue → World
gathered_world shared records = record {
  processors = map (λ (r : RecordValue). r.state) records;
  memory = replay shared.image shared.history;
}

-- of each processor of which a stream still runs it has so many steps
abbrev pub IsLongEnough : ℕ → WovenValue → Type 0
IsLongEnough fuel w =
    (p : ℕ) (r : RecordValue) → slice_get w.records p ≡ Some r → any_runs r.state ≡ true
    → fuel ≤ length (steps_of p w.schedule)

-- it holds just the steps of each record in order, makes just the history, and ends in the records' states and the
-- memory's words
pub record IsWoven (w : WovenValue) : Type 0 where
  pub weaves : IsWeave w.shared.image w.schedule (step_lists w.records) w.shared.history
  pub ends : run w.shared.image w.schedule ≡ gathered_world w.shared w.records
