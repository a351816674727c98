use Rattle.std.proofs.Common.{sym, ◌∙◌, subst}
use Rattle.source_slips.specs.Made.{LeadsWhere}
use Rattle.source_slips.proofs.closed_codes.leads_at.Goals as goal

pub returns-in-Some : goal.returns-in-Some
returns-in-Some c got =
    subst (LeadsWhere c.args.image.now c.args.table.now c.args.anywhere c.args.place)
    (sym c.in-Some.is ∙ c.most_at.ensures) (c.leads_from.ensures got)
