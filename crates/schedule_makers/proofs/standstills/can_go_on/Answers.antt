use Rattle.schedule_makers.proofs.AllStuck.{going_if, still_if}
use Rattle.schedule_makers.proofs.standstills.can_go_on.Goals as goal

pub returns-clause-yes : goal.returns-clause-yes
returns-clause-yes g c =
    going_if c.args.machine.now.image c.args.machine.now.world c.args.running.now c.are_all_stuck.result
    c.requires.listed c.are_all_stuck.ensures

pub returns-clause-otherwise : goal.returns-clause-otherwise
returns-clause-otherwise g c =
    still_if c.args.machine.now.image c.args.machine.now.world c.args.running.now c.are_all_stuck.result
    c.requires.listed c.requires.some c.are_all_stuck.ensures
