-- the depths so far
use Rattle.state_tables.specs.Depths.{AreDepths}
use Rattle.state_tables.proofs.depths.depths_of.Given as goal

abbrev pub invariant-loop-place : goal.invariant-loop-place
invariant-loop-place l = AreDepths l.space l.place l.depths.items
