use Rattle.std.specs.Prelude.{All}
use Rattle.source_slips.specs.Falls.{RunsPast}
use Rattle.source_slips.proofs.straight_ways.past_ends.Given as goal

abbrev pub invariant-loop-place : goal.invariant-loop-place
invariant-loop-place l = All (λ e. RunsPast l.image e.place e.next) l.found.items
