-- What a record and a port come to while a processor is driven.
use Rattle.std.specs.Prelude.{ℕ, ◌≡◌, ◌<◌, ◌≤◌, ◌+◌, ◌++◌, List, Option, Some, option_map, max, length, map, drop}
use Rattle.processor.specs.Histories.{entry_by}
use Rattle.processor.specs.Records.{RecordValue}
use Rattle.processor.specs.Row.{request}
use Rattle.processor.specs.Turns.{IsInTurn, turn_after, last_of}
use Rattle.tag_memory.specs.declared.requests.Request.{Request}
use Rattle.processor.specs.declared.steps.Asked.{Asked}
use Rattle.processor.specs.declared.steps.Entry.{Entry}

-- a port's list of entries with more at its end, where it keeps one
abbrev pub with_entries : Option (List Entry) → List Entry → Option (List Entry)
with_entries kept es = option_map (λ (l : List Entry). l ++ es) kept

-- a record went on: its old steps and pairs are the beginnings of the new ones, each new step is of the stream whose
-- turn it was, it took no step past fuel, and it has room for what is missing to fuel
pub record IsGrown (fuel : ℕ) (old new : RecordValue) : Type 0 where
  pub image : new.image ≡ old.image
  pub number : new.number ≡ old.number
  pub steps : (more : List ℕ) × (new.steps ≡ old.steps ++ more)
  pub pairs : (more : List Asked) × (new.pairs ≡ old.pairs ++ more)
  pub in_turn : (k : ℕ) → length old.steps ≤ k → k < length new.steps
      → IsInTurn new.image new.number new.steps new.pairs k
  pub bound : length new.steps ≤ max fuel (length old.steps)
  pub room : fuel ≤ length new.steps + new.spare

-- the entries that a port made are the record's new pairs
abbrev pub HasMade : RecordValue → RecordValue → Option (List Entry) → Option (List Entry) → Type 0
HasMade old new before after =
    after ≡ with_entries before (map (entry_by old.number) (drop (length old.pairs) new.pairs))

-- a step is missing to fuel, and the stream whose turn it is makes a request
pub record MayAsk (fuel : ℕ) (r : RecordValue) : Type 0 where
  pub short : length r.steps < fuel
  pub stream : ℕ
  pub turn : turn_after r.state (last_of r.steps) ≡ Some stream
  pub asked : Request
  pub asks : request r.image r.state stream ≡ Some asked
