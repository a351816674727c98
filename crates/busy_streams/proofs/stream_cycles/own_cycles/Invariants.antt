-- Each edge so far has its stream among them.
use Rattle.std.proofs.Common.{ℕ, ◌<◌, slice_index_or}
use Rattle.schedule_space.specs.declared.links.Edge.{Edge}
use Rattle.busy_streams.specs.OwnCycles.{AreAllOwn, HasCyclesOf}
use Rattle.busy_streams.proofs.stream_cycles.own_cycles.Given as goal

abbrev pub invariant-loop-number : goal.invariant-loop-number
invariant-loop-number l = record {
  own : AreAllOwn l.space l.cycles.items;
  each : (i : ℕ) (d : Edge) → i < l.number → HasCyclesOf l.cycles.items (slice_index_or l.edges i d).step;
}
