-- the places so far
use Rattle.state_tables.specs.Targets.{ArePlaces}
use Rattle.state_tables.proofs.targets.places.Given as goal

abbrev pub invariant-loop-place : goal.invariant-loop-place
invariant-loop-place l = ArePlaces l.place l.places.items
