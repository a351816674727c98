use Rattle.std.proofs.Common.{ℕ, ◌<◌, IsTrue}
use Rattle.std.specs.Prelude.{slice_get}
use Rattle.stream_core.specs.StreamRow.{fetch_word}
use Rattle.local_steps.specs.SettledEndings.{is_settled_place}
use Rattle.local_steps.specs.CalmPlaces.{IsCalmAt}
use Rattle.local_steps.proofs.settling.are_calm.Given as goal

abbrev pub invariant-loop-place : goal.invariant-loop-place
invariant-loop-place l =
    (k : ℕ) → k < l.place → IsTrue (is_settled_place l.places k)
    → IsCalmAt l.places k (fetch_word l.profile (slice_get l.program k))
