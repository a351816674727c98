use Rattle.std.proofs.Common.{sym, ◌∙◌, subst}
use Rattle.source_slips.specs.Made.{AsksIf}
use Rattle.source_slips.proofs.unmade.asks_at.Goals as goal

pub returns-in-Some : goal.returns-in-Some
returns-in-Some c got =
    subst (AsksIf c.args.most) (sym c.in-Some.is ∙ c.insn_at.ensures) (c.asks_from.ensures got)
