use Rattle.std.proofs.Common.{◌≡◌, ◌+◌, drop}
use Rattle.text_parts.specs.Runs.{run_length}
use Rattle.text_parts.proofs.runs.run_length.Given as goal

abbrev pub invariant-loop-next : goal.invariant-loop-next
invariant-loop-next g l = record {
  so_far : l.count ≡ l.next-index;
  more : run_length g.T.PartialEq.eq l.thing l.things
      ≡ l.count + run_length g.T.PartialEq.eq l.thing (drop l.next-index l.things);
}
