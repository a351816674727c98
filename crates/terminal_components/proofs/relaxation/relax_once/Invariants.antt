-- what was lowered so far, and where nothing was, that the links from this one on lower nothing
use Rattle.std.proofs.Common.{◌≡◌, ℕ, ◌<◌, ◌≤◌, sum, false, true, List}
use Rattle.terminal_components.specs.Values.{IsNoHigher, AreReachedValues, AreNear}
use Rattle.terminal_components.proofs.Values.{AreLowFrom}
use Rattle.terminal_components.proofs.relaxation.relax_once.Given as goal

abbrev pub invariant-loop-number : goal.invariant-loop-number
invariant-loop-number l = record {
  reached :
      (start : List ℕ) → AreReachedValues l.links l.cost start l.fn.values → AreReachedValues l.links l.cost start l.values;
  kept : IsNoHigher l.fn.values l.values;
  near : l.cost ≤ 1 → AreNear l.fn.values → AreNear l.values;
  no_more : sum l.values ≤ sum l.fn.values;
  less : l.is_lower ≡ true → sum l.values < sum l.fn.values;
  low : l.is_lower ≡ false → AreLowFrom l.links l.cost l.values l.number;
}
