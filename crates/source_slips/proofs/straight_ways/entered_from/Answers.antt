use Rattle.std.proofs.Common.{sym, ◌∙◌, subst}
use Rattle.std.specs.Prelude.{IfSome}
use Rattle.source_slips.specs.Falls.{LeadsInto}
use Rattle.source_slips.proofs.straight_ways.entered_from.Goals as goal

pub returns-in-Some : goal.returns-in-Some
returns-in-Some c =
    subst (λ o. IfSome c.entered.result (LeadsInto c.args.image.now o c.args.place))
    (sym c.in-Some.is ∙ c.insn_at.ensures) c.entered.ensures
