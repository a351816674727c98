use Rattle.std.proofs.Common.{rules}
use Rattle.end_states.specs.EndStates.{trap_stops}
use Rattle.end_states.proofs.Stops.{one_more_processor, all_processors}
use Rattle.end_states.proofs.states.trap_stops.Goals as goal

pub loop-p-preserved : goal.loop-p-preserved
loop-p-preserved g c =
    one_more_processor c.args.machine.now.world c.loop-p.p (trap_stops c.args.machine.now.world)
    c.loop-p.stopped.items c.push_stops.new.stopped.items c.loop-p.invariant c.in_ok-push_stops.ensures

pub returns : goal.returns
returns g c =
    all_processors g.row.S c.args.machine.now c.loop-p.p c.loop-p.stopped.items c.image.ensures.kept c.loop-p.invariant
    (search rules)
