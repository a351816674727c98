-- the values so far are some that are led to, and none is higher than at first
use Rattle.std.proofs.Common.{◌≤◌, sum}
use Rattle.terminal_components.specs.Values.{IsNoHigher, AreReachedValues, AreNear}
use Rattle.terminal_components.proofs.relaxation.relax_all.Given as goal

abbrev pub invariant-loop-cost : goal.invariant-loop-cost
invariant-loop-cost l = record {
  reached : AreReachedValues l.links l.cost l.fn.values l.values;
  kept : IsNoHigher l.fn.values l.values;
  near : l.cost ≤ 1 → AreNear l.fn.values → AreNear l.values;
}

abbrev pub decreases-loop-cost : goal.decreases-loop-cost
decreases-loop-cost l = sum l.values
