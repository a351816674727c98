-- No place so far is marked, and there is one if one before the place is not.
use Rattle.std.proofs.Common.{ℕ, ◌<◌, length}
use Rattle.std.specs.List.{All}
use Rattle.space_ends.specs.Spinning.{IsUnmarked}
use Rattle.space_ends.proofs.spinning_sets.places_without_end.Given as goal

abbrev pub invariant-loop-place : goal.invariant-loop-place
invariant-loop-place l =
    All (IsUnmarked l.can_end) l.places.items
    × ((k : ℕ) → k < l.place → IsUnmarked l.can_end k → 0 < length l.places.items)
