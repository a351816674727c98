-- Rows: few numbers of each state, which count in a table of lists of numbers.
use Rattle.std.specs.Prelude.{◌≡◌, ℕ, ◌<◌, List, length, Vec}
use Rattle.std.specs.List.{HoldsAt}
use Rattle.std.specs.Global.{Global}
use Rattle.image_file.specs.ImageValue.{ImageValue}
use Rattle.processor.specs.World.{World}
use Rattle.world_keys.specs.WorldKeys.{key_of, IsKnown}

-- The numbers are the places of what the memory and the processors of a world hold, which the table has, as it has what
-- their streams hold.
pub record IsRow (image : ImageValue) (table : List (List ℕ)) (w : World) (row : List ℕ) : Type 0 where
  pub is : row ≡ key_of table image w
  pub known : IsKnown table image w

-- the same of a vector
abbrev pub IsRowIn : ImageValue → List (List ℕ) → World → Vec ℕ Global → Type 0
IsRowIn image table w row = IsRow image table w row.items

-- there is a row of each of the first worlds, so many
pub record AreRows (image : ImageValue) (table : List (List ℕ)) (world : ℕ → World) (n : ℕ) (rows : List (Vec ℕ Global))
    : Type 0 where
  pub many : length rows ≡ n
  pub each : (k : ℕ) → k < n → HoldsAt (IsRowIn image table (world k)) rows k
