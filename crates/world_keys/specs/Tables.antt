-- Tables of lists of numbers, each list known by its place.
use Rattle.std.specs.Prelude.{◌≡◌, ℕ, suc, ◌<◌, List, [], ◌∷◌, ◌++◌, length, if◌then◌else◌, bytes_eq}

-- the first place at which a table has this list of numbers; its length where it does not have it
unfoldable pub place_in : List (List ℕ) → List ℕ → ℕ
place_in [] ns = 0
place_in (xs ∷ table) ns = if bytes_eq ns xs then 0 else suc (place_in table ns)

-- the table has this list
abbrev pub Has : List (List ℕ) → List ℕ → Type 0
Has table ns = place_in table ns < length table

-- the later table begins with the earlier one
abbrev pub Extends : List (List ℕ) → List (List ℕ) → Type 0
Extends old new = (more : List (List ℕ)) × (new ≡ old ++ more)
