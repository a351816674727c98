-- Points in turn: as a list, copied, and those that stop.
use Rattle.std.proofs.Common.{◌≡◌, ℕ, ◌+◌, refl, ap, List, [], ◌∷◌, Option, Some, None}
use Rattle.slab.specs.Slab.{entries_from}
use Rattle.replay_debugger.specs.declared.points.Point.{Point}
use Rattle.replay_debugger.specs.PointLists.{points_from}

-- the entries of the slab are the points with their keys
pub entries_are : (key : ℕ) (slots : List (Option Point)) → entries_from key slots ≡ points_from key slots
entries_are key [] = refl
entries_are key (None ∷ rest) = entries_are (key + 1) rest
entries_are key (Some point ∷ rest) = ap (λ es. (key, point) ∷ es) (entries_are (key + 1) rest)
