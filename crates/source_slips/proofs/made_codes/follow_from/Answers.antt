use Rattle.std.proofs.Common.{sym, ap, ◌∙◌}
use Rattle.source_slips.specs.Made.{most_at}
use Rattle.source_slips.proofs.LeastTables.{least_followed}
use Rattle.source_slips.proofs.made_codes.follow_from.Goals as goal

pub returns : goal.returns
returns c least =
    least_followed c.args.image.now c.args.made.now.most.items c.args.made.now.anywhere c.follow.new.self.most.items
    c.follow.new.self.anywhere c.args.place c.in-Some.before c.in-Some-insn_at.insn
    (ap (λ table. most_at table c.args.place) (sym c.deref.ensures.value) ∙ sym c.most_at.ensures ∙ c.in-Some.is)
    (sym c.insn_at.ensures ∙ c.in-Some-insn_at.is) c.follow.ensures least
