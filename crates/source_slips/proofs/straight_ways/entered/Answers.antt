use Rattle.std.proofs.Common.{subst}
use Rattle.std.specs.Prelude.{IfSome}
use Rattle.source_slips.specs.Places.{GoesStraight}
use Rattle.source_slips.proofs.Ways.{entered}
use Rattle.source_slips.proofs.straight_ways.entered.Goals as goal

pub returns-in-Some : goal.returns-in-Some
returns-in-Some c =
    entered c.args.image.now c.args.insn.now c.args.place c.in-Some.next c.processor_from.result
    (subst (λ o. IfSome o (GoesStraight c.args.insn.now c.args.place)) c.in-Some.is c.next_place.ensures)
    c.processor_from.ensures
