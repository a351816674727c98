-- those so far are edges
use Rattle.std.proofs.Common.{Contains}
use Rattle.std.specs.List.{All}
use Rattle.fair_rounds.proofs.checked_rounds.edges_at.Given as goal

abbrev pub invariant-loop-index : goal.invariant-loop-index
invariant-loop-index l = All (Contains l.edges) l.found.items
