use Rattle.std.proofs.Common.{ℕ, ◌<◌, IsTrue}
use Rattle.std.specs.Prelude.{slice_get}
use Rattle.stream_core.specs.StreamRow.{fetch_word}
use Rattle.program_flow.specs.Codes.{HasCodesAt}
use Rattle.program_flow.specs.Tables.{is_asked_at}
use Rattle.program_flow.proofs.closed_codes.has_codes.Given as goal

abbrev pub invariant-loop-place : goal.invariant-loop-place
invariant-loop-place l =
    (k : ℕ) → k < l.place
    → HasCodesAt (IsTrue l.handled) (λ j c. IsTrue (is_asked_at l.table j c)) k (fetch_word l.profile (slice_get l.program k))
