-- There is one for each place so far.
use Rattle.std.proofs.Common.{◌≡◌, ◌<◌, ℕ, false, length}
use Rattle.std.specs.Prelude.{slice_index_or}
use Rattle.claims.specs.Looking.{is_looked_at}
use Rattle.claims.proofs.looking.places_looked_at.Given as goal

abbrev pub invariant-loop-place : goal.invariant-loop-place
invariant-loop-place l = record {
  each : length l.places.items ≡ l.place;
  is : (k : ℕ) → k < l.place → slice_index_or l.places.items k false ≡ is_looked_at l.claims k;
}
