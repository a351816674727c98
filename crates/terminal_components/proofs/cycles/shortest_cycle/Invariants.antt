-- the links so far lead here, and a shortest way goes on from here
use Rattle.std.proofs.Common.{ℕ, ◌+◌, ◌<◌, ◌≤◌, List, length, slice_index}
use Rattle.terminal_components.specs.Ways.{IsWay}
use Rattle.terminal_components.specs.Values.{far}
use Rattle.terminal_components.specs.Cycles.{IsCycle}
use Rattle.terminal_components.proofs.cycles.shortest_cycle.Given as goal

abbrev pub invariant-loop-here : goal.invariant-loop-here
invariant-loop-here l = record {
  inside : l.here < l.count;
  near : slice_index l.distances.items l.here < far;
  way : IsWay l.count l.links l.place l.numbers.items l.here;
  some : 0 < length l.numbers.items;
  short :
      (others : List ℕ) → IsCycle l.count l.links l.place others
      → length l.numbers.items + slice_index l.distances.items l.here ≤ length others;
}

abbrev pub decreases-loop-here : goal.decreases-loop-here
decreases-loop-here l = slice_index l.distances.items l.here
