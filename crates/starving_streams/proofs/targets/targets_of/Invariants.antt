-- where the edges so far lead
use Rattle.std.proofs.Common.{take}
use Rattle.starving_streams.specs.Graphs.{AreTargets}
use Rattle.starving_streams.proofs.targets.targets_of.Given as goal

abbrev pub invariant-loop-edge : goal.invariant-loop-edge
invariant-loop-edge l = AreTargets l.count (take l.edge-index l.edges) l.who l.targets.items
