use Rattle.std.proofs.Common.{below_more, ℕ, ap, sym, ◌∙◌, subst, IsTrue, List, Bool}
use Rattle.std.specs.Prelude.{slice_get}
use Rattle.stream_core.specs.StreamRow.{fetch_word}
use Rattle.program_flow.specs.Flow.{IsClosedAt}
use Rattle.program_flow.specs.Tables.{is_live_by, is_live_at, is_named_by}
use Rattle.program_flow.proofs.closed_tables.is_closed.Goals as goal

pub loop-place-preserved : goal.loop-place-preserved
loop-place-preserved c =
    below_more _ _ c.loop-place.invariant
    (subst
    (λ (k : ℕ). IsTrue (is_live_at c.args.table.now k 0)
    × (((r : ℕ) → IsTrue (is_named_by c.args.names.now r) → IsTrue (is_live_at c.args.table.now k r))
    × IsClosedAt (IsTrue c.args.handled) (λ j r. IsTrue (is_live_at c.args.table.now j r)) k
    (fetch_word c.args.profile (slice_get c.args.program.now k))))
    c.in-Ok.ensures.1 (
      sym (ap (λ marks. is_live_by marks 0) c.row_at-row.ensures) ∙ sym c.is_live.ensures ∙ c.if-not-is_live.false,
      (
        subst (λ (row : List Bool). (r : ℕ) → IsTrue (is_named_by c.args.names.now r) → IsTrue (is_live_by row r))
            c.row_at-row.ensures (c.has_named.ensures c.if-not-has_named.false),
        c.is_closed_at.ensures c.if-not-is_closed_at.false,
      ),
    ))
