use Rattle.schedule_space.proofs.Kept.{more_if}
use Rattle.schedule_space.proofs.finding.keep_machine.Goals as goal

pub returns-in-Some : goal.returns-in-Some
returns-in-Some g c = λ m hand.
    more_if c.push.result c.args.machines.now c.push.new.self c.args.place c.in-Some.machine m (hand c.in-Some.machine c.in-Some.is)
    c.push.ensures
