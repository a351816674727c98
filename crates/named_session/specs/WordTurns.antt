-- Which steps of a session filled or emptied a word.
use Rattle.std.specs.Prelude.{ℕ, ◌-◌, Bool, true, false, not, Option, Some, None}
use Rattle.tag_memory.specs.Cell.{Cell}
use Rattle.tag_memory.specs.Storage.{cell_at}
use Rattle.replay_debugger.specs.Sessions.{SessionValue, world_at}

-- whether two bits differ
abbrev pub bits_differ : Bool → Bool → Bool
bits_differ true b = not b
bits_differ false b = b

-- whether a word is full in one of two states and empty in the other; not where it is missing
abbrev pub is_turned : Option Cell → Option Cell → Bool
is_turned None after = false
is_turned (Some b) None = false
is_turned (Some b) (Some a) = bits_differ b.full a.full

-- whether the step that led to position k filled or emptied the word at a byte address; none led to 0
abbrev pub turns_word : SessionValue → ℕ → ℕ → Bool
turns_word s a k =
    is_turned (cell_at (world_at s.image s.schedule (k - 1)).memory a)
    (cell_at (world_at s.image s.schedule k).memory a)
