use Rattle.std.proofs.Common.{sym, ◌∙◌}
use Rattle.replay_debugger.specs.Stops.{is_stop}
use Rattle.replay_debugger.proofs.Finding.{run_found}
use Rattle.replay_debugger.proofs.replay.Replay.step_to_stop.Goals as goal

pub returns-then-advance-clause-goes : goal.returns-then-advance-clause-goes
returns-then-advance-clause-goes g c = λ points looks.
    let ts = c.args.schedule.now in
    let image = c.args.self.now.machine.image in
    let k = c.loop-self.self.position in
    let stop = c.advance.ensures.stop points (c.loop-self.invariant.looks points looks) in
    run_found (is_stop image ts points) c.args.self.now.position _ k c.advance.new.self.position
    c.loop-self.invariant.from c.loop-self-test.true c.advance.ensures.position
    (c.loop-self.invariant.none points looks)
    ((λ i. is_stop (sym c.loop-self.invariant.image i) ts points (c.advance.ensures.position i))
    ∙ sym stop ∙ c.if-advance.true)
