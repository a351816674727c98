-- A watched word: what is watched of it, as it was last seen.
use Rattle.std.specs.Prelude.{ℕ, Bool, true, false, Option, Some, None}
use Rattle.tag_memory.specs.Cell.{Cell}

pub record WatchValue : Type 0 where
  pub address : ℕ
  pub tags_alone : Bool
  pub seen : Option Cell

-- what is watched of a word: all of it, or its tags alone, over the value 0
abbrev pub watched_part : Bool → Option Cell → Option Cell
watched_part false c = c
watched_part true None = None
watched_part true (Some c) = Some (record c { value = 0 })

-- a word that is watched at an address, as it is seen there
abbrev pub watch_at : ℕ → Bool → Option Cell → WatchValue
watch_at a tags_alone c = record { address = a; tags_alone = tags_alone; seen = watched_part tags_alone c }
