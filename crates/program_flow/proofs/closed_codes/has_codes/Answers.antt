use Rattle.std.proofs.Common.{below_more, ℕ, arith, subst, IsTrue}
use Rattle.std.specs.Prelude.{slice_get}
use Rattle.stream_core.specs.StreamRow.{fetch_word}
use Rattle.program_flow.specs.Codes.{HasCodesAt}
use Rattle.program_flow.specs.Tables.{is_asked_at}
use Rattle.program_flow.proofs.Live.{codes_table}
use Rattle.program_flow.proofs.closed_codes.has_codes.Goals as goal

pub loop-place-preserved : goal.loop-place-preserved
loop-place-preserved c =
    below_more _ _ c.loop-place.invariant
    (subst
    (λ (k : ℕ). HasCodesAt (IsTrue c.args.handled) (λ j d. IsTrue (is_asked_at c.args.table.now j d)) k
    (fetch_word c.args.profile (slice_get c.args.program.now k)))
    c.in-Ok.ensures.1 (c.has_codes_at.ensures c.if-not-has_codes_at.false))

pub returns : goal.returns
returns c done =
    codes_table c.args.profile c.args.program.now c.args.handled c.args.table.now
    (λ k below. c.loop-place.invariant k (omega arith))
