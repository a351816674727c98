use Rattle.waiting.specs.Running.{running_steps}
use Rattle.waiting.proofs.Looking.{one_more_processor, all_processors, running_all}
use Rattle.std.proofs.Common.{rules}
use Rattle.waiting.proofs.running.running_streams.Goals as goal

pub loop-p-preserved : goal.loop-p-preserved
loop-p-preserved g c =
    one_more_processor c.args.machine.now.world c.loop-p.p (running_steps c.args.machine.now.world)
    c.loop-p.running.items c.push_running.new.running.items c.loop-p.invariant c.in_ok-push_running.ensures

pub returns-clause-is : goal.returns-clause-is
returns-clause-is g c =
    all_processors g.row.S c.args.machine.now c.loop-p.p c.loop-p.running.items c.image.ensures.kept c.loop-p.invariant
    (search rules)

pub returns-clause-all : goal.returns-clause-all
returns-clause-all g c =
    running_all c.args.machine.now.world c.loop-p.running.items
    (all_processors g.row.S c.args.machine.now c.loop-p.p c.loop-p.running.items c.image.ensures.kept
    c.loop-p.invariant (search rules))
