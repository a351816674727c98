use Rattle.std.proofs.Common.{sym, ◌∙◌}
use Rattle.source_slips.proofs.LeastTables.{least_entry}
use Rattle.source_slips.proofs.made_codes.come_to_entry.Goals as goal

pub returns : goal.returns
returns c least =
    least_entry c.args.image.now c.args.made.now.most.items c.args.made.now.anywhere c.come.new.self.most.items
    c.come.new.self.anywhere c.args.processor c.in-Some.entry (sym c.entry.ensures.is ∙ c.in-Some.is) c.come.ensures least
