use Rattle.std.proofs.Common.{◌≤◌, ap, sym, ◌∙◌, subst, length}
use Rattle.std.specs.Prelude.{IfSome}
use Rattle.source_slips.specs.Places.{GoesStraight}
use Rattle.source_slips.specs.Falls.{LeadsPast}
use Rattle.source_slips.proofs.straight_ways.past_from.Goals as goal

pub returns-in-Some : goal.returns-in-Some
returns-in-Some c =
    subst (λ o. IfSome c.past_place.result (LeadsPast o c.args.place (length c.args.image.now.program)))
    (sym c.in-Some.is ∙ c.insn_at.ensures)
    (subst (λ n. IfSome c.past_place.result (λ j. GoesStraight c.in-Some.insn c.args.place j × (n ≤ j)))
    (ap length c.program.ensures.is) c.past_place.ensures)
