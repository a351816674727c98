use Rattle.schedule_space.proofs.Others.{others_next}
use Rattle.schedule_space.proofs.stepping.change_of.Goals as goal

pub returns-clause-others : goal.returns-clause-others
returns-clause-others g c = λ on.
    others_next c.args.machine.now.image c.args.machine.now.world c.args.next.now.world c.args.step c.requires.world
    (c.are_no_more_current.ensures on)
