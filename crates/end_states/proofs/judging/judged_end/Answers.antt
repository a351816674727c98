use Rattle.std.proofs.Common.{refl}
use Rattle.end_states.proofs.RightEnds.{right, trapped_where}
use Rattle.end_states.proofs.judging.judged_end.Goals as goal

pub returns-clause-trapped : goal.returns-clause-trapped
returns-clause-trapped g c = trapped_where c.are_traps_expected.result c.are_traps_expected.ensures

pub returns-clause-right : goal.returns-clause-right
returns-clause-right g c = λ ends.
    right c.args.machine.now.image c.args.machine.now.world c.args.expected.now _ ends c.judged_kind.ensures.is
    c.first_missed.ensures refl (trapped_where c.are_traps_expected.result c.are_traps_expected.ensures)
