use Rattle.std.proofs.Common.{ℕ, ◌<◌, IsTrue}
use Rattle.std.specs.Prelude.{slice_get}
use Rattle.stream_core.specs.StreamRow.{fetch_word}
use Rattle.program_flow.specs.Flow.{IsClosedAt}
use Rattle.program_flow.specs.Tables.{is_live_at, is_named_by}
use Rattle.program_flow.proofs.closed_tables.is_closed.Given as goal

abbrev pub invariant-loop-place : goal.invariant-loop-place
invariant-loop-place l =
    (k : ℕ) → k < l.place
    → IsTrue (is_live_at l.table k 0)
    × (((r : ℕ) → IsTrue (is_named_by l.names r) → IsTrue (is_live_at l.table k r))
    × IsClosedAt (IsTrue l.handled) (λ j r. IsTrue (is_live_at l.table j r)) k (fetch_word l.profile (slice_get l.program k)))
