use Rattle.reachable_places.proofs.Searches.{IsBegun}
use Rattle.reachable_places.proofs.search.begun.Given as goal

abbrev pub invariant-loop-processor : goal.invariant-loop-processor
invariant-loop-processor l = IsBegun l.image l.search.places.items l.search.left.items l.processor
