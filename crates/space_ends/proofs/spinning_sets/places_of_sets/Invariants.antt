-- No place of the sets so far is marked, and each set has one.
use Rattle.std.proofs.Common.{Vec, Global, ℕ, ◌<◌, length}
use Rattle.std.specs.List.{All}
use Rattle.space_ends.specs.Spinning.{IsUnmarked}
use Rattle.space_ends.proofs.spinning_sets.places_of_sets.Given as goal

abbrev pub invariant-loop-place : goal.invariant-loop-place
invariant-loop-place l =
    All (λ (set : Vec ℕ Global). All (IsUnmarked l.can_end) set.items) l.sets.items
    × All (λ (set : Vec ℕ Global). 0 < length set.items) l.sets.items
