-- where the edges so far lead
use Rattle.std.proofs.Common.{take}
use Rattle.state_tables.specs.Targets.{AreTargets}
use Rattle.state_tables.proofs.targets.targets_of.Given as goal

abbrev pub invariant-loop-edge : goal.invariant-loop-edge
invariant-loop-edge l = AreTargets l.states (take l.edge-index l.edges) l.stream l.targets.items
