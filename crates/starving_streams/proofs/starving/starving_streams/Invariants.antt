-- what is said of the streams so far
use Rattle.starving_streams.specs.Reports.{HasAllStates}
use Rattle.starving_streams.specs.Graphs.{TellsOfFirst}
use Rattle.starving_streams.proofs.starving.starving_streams.Given as goal

abbrev pub invariant-loop-number : goal.invariant-loop-number
invariant-loop-number g l =
    HasAllStates l.space → TellsOfFirst l.space.image l.space.begin l.rests l.graph.streams.items l.number l.report
