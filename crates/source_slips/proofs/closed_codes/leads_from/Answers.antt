use Rattle.std.proofs.Common.{sym, ◌∙◌, subst}
use Rattle.source_slips.specs.Made.{LeadsIf}
use Rattle.source_slips.proofs.closed_codes.leads_from.Goals as goal

pub returns-in-Some : goal.returns-in-Some
returns-in-Some c got =
    subst (LeadsIf c.args.table.now c.args.anywhere c.args.place c.args.most)
    (sym c.in-Some.is ∙ c.insn_at.ensures) (c.leads.ensures got)
