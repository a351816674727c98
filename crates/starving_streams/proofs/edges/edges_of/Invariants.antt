-- those of the streams so far
use Rattle.starving_streams.specs.Reports.{HasAllStates}
use Rattle.starving_streams.specs.Graphs.{AreEdges}
use Rattle.starving_streams.proofs.edges.edges_of.Given as goal

abbrev pub invariant-loop-number : goal.invariant-loop-number
invariant-loop-number l = HasAllStates l.space → AreEdges l.space l.standings l.streams l.number l.edges.items
