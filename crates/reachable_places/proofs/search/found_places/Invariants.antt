use Rattle.std.proofs.Common.{◌+◌, length}
use Rattle.reachable_places.specs.Searches.{missing, IsSearch, HasBeginnings}
use Rattle.reachable_places.proofs.search.found_places.Given as goal

abbrev pub invariant-loop-place : goal.invariant-loop-place
invariant-loop-place l =
    IsSearch l.image l.search.places.items l.search.left.items (λ k. ⊥) × HasBeginnings l.image l.search.places.items

abbrev pub decreases-loop-place : goal.decreases-loop-place
decreases-loop-place l = missing l.search.places.items + length l.search.left.items
