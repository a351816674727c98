use Rattle.std.specs.Prelude.{All}
use Rattle.reachable_places.specs.Reached.{IsNeverReached}
use Rattle.reachable_places.proofs.unreached_words.unreached_rows.Given as goal

abbrev pub invariant-loop-place : goal.invariant-loop-place
invariant-loop-place l = All (IsNeverReached l.image) l.rows.items
