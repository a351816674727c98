-- The submissions of a class.
use Rattle.std.specs.Prelude.{◌≡◌, ℕ, List, IsPermutation, IsSorted, nat_eq}
use Rattle.std.specs.Cmp.Lexicographic.{slice_cmp, pointwise}
use Rattle.std.specs.Ordering.{nat_cmp}
use Rattle.std.specs.List.{dedup}
use Rattle.std.specs.Borrow.{Bor}

-- They are these paths, sorted by their bytes, each once.
pub record IsClassOf (paths class : List (Bor (List ℕ))) : Type 0 where
  pub sorted : List (Bor (List ℕ))
  -- all the paths and no other
  pub all : IsPermutation paths sorted
  -- in the order of their bytes
  pub order : IsSorted (λ x y. slice_cmp nat_cmp x.now y.now) sorted
  -- of those that are equal one is left
  pub once : class ≡ dedup (λ x y. pointwise nat_eq x.now y.now) sorted
