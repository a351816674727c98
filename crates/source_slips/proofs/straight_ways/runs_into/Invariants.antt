use Rattle.std.specs.Prelude.{All}
use Rattle.source_slips.specs.Falls.{RunsInto}
use Rattle.source_slips.proofs.straight_ways.runs_into.Given as goal

abbrev pub invariant-loop-place : goal.invariant-loop-place
invariant-loop-place l = All (λ r. RunsInto l.image r.place r.processor) l.found.items
