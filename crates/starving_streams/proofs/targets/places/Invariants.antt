-- the places so far
use Rattle.starving_streams.specs.Graphs.{ArePlaces}
use Rattle.starving_streams.proofs.targets.places.Given as goal

abbrev pub invariant-loop-place : goal.invariant-loop-place
invariant-loop-place l = ArePlaces l.place l.places.items
