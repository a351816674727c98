-- Lists of numbers, each kept once in a table.
use Rattle.std.specs.Prelude.{◌≡◌, ℕ, ◌<◌, List, length, slice_get, slice_index_or, Some, Vec}
use Rattle.std.specs.List.{HoldsAt}
use Rattle.std.specs.Global.{Global}

-- the table has the list at this place
abbrev pub StandsAt : List (List ℕ) → ℕ → Vec ℕ Global → Type 0
StandsAt table m list = slice_get table m ≡ Some list.items

-- the numbers name the first lists, so many
pub record AreSets (lists : List (Vec ℕ Global)) (n : ℕ) (table : List (List ℕ)) (set_of : List ℕ) : Type 0 where
  pub many : length set_of ≡ n
  pub each : (k : ℕ) → k < n → HoldsAt (StandsAt table (slice_index_or set_of k 0)) lists k
