use Rattle.std.proofs.Common.{below_more, ℕ, arith, subst}
use Rattle.source_slips.specs.Made.{most_at, LeadsWhere}
use Rattle.source_slips.proofs.MadeTables.{all_lead}
use Rattle.source_slips.proofs.closed_codes.all_lead.Goals as goal

pub loop-place-preserved : goal.loop-place-preserved
loop-place-preserved c =
    below_more _ _ c.loop-place.invariant
    (subst
    (λ (k : ℕ). LeadsWhere c.args.image.now c.args.table.now c.args.anywhere k (most_at c.args.table.now k))
    c.in-Ok.ensures.1 (c.leads_at.ensures c.if-not-leads_at.false))

pub returns : goal.returns
returns c done =
    all_lead c.args.image.now c.args.table.now c.args.anywhere
    (λ k below. c.loop-place.invariant k (omega (arith, below)))
