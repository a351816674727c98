use Rattle.std.proofs.Common.{sym, subst}
use Rattle.std.specs.Prelude.{IfSome}
use Rattle.source_slips.specs.Made.{Allows}
use Rattle.source_slips.proofs.LeastTables.{aim_if_below}
use Rattle.source_slips.proofs.made_codes.CodeCounts.aim_if.Goals as goal

pub returns : goal.returns
returns c t a below named =
    c.come_if.ensures t a below
    (subst (λ n. IfSome c.args.place (λ k. Allows t k n)) (sym c.anywhere_or_none-count.ensures)
    (aim_if_below c.args.self.now.most.items c.args.self.now.anywhere t a below c.args.place named))
