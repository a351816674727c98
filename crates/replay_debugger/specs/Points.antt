-- The points of a session, a finite map: what stands under each key from 0 on.
use Rattle.std.specs.Prelude.{◌≡◌, ◌≢◌, ℕ, List, Option, Some, None, IsSome, slice_index_or}
use Rattle.replay_debugger.specs.declared.points.Point.{Point}

-- the point of a key, if there is one
abbrev pub point_at : List (Option Point) → ℕ → Option Point
point_at points key = slice_index_or points key None

-- this point is new, under a key that none had, and every other key has what it had
pub record AddsPoint (old new : List (Option Point)) (key : ℕ) (point : Point) : Type 0 where
  pub was_vacant : point_at old key ≡ None
  pub is_there : point_at new key ≡ Some point
  pub others : (other : ℕ) → other ≢ key → point_at new other ≡ point_at old other

-- the point of this key is gone, and every other key has what it had
pub record TakesPoint (old new : List (Option Point)) (key : ℕ) : Type 0 where
  pub was_there : IsSome (point_at old key)
  pub is_gone : point_at new key ≡ None
  pub others : (other : ℕ) → other ≢ key → point_at new other ≡ point_at old other
