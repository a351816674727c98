use Rattle.replay_debugger.proofs.Replaying.{stands_next, stop_next}
use Rattle.replay_debugger.proofs.replay.Replay.advance.Goals as goal

pub returns-clause-stands : goal.returns-clause-stands
returns-clause-stands g c =
    stands_next c.args.schedule.now c.args.self.now.machine c.step.new.self c.args.self.now.position
    (record { p = 0; s = 0 }) c.step.result c.requires.within c.step.ensures.world c.step.ensures.image
    c.requires.stands

pub returns-clause-stop : goal.returns-clause-stop
returns-clause-stop g c = λ points looks.
    let m = c.args.self.now.machine in
    stop_next c.args.schedule.now m c.step.new.self c.args.self.now.position (record { p = 0; s = 0 }) c.step.result
    points c.next.result c.meet.result c.requires.within c.step.ensures.world c.step.ensures.image c.requires.stands
    c.next.ensures (c.meet.ensures.stop points m.world looks)

pub returns-clause-looks : goal.returns-clause-looks
returns-clause-looks g c = λ points looks. c.meet.ensures.looks points c.args.self.now.machine.world.memory looks
