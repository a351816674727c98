use Rattle.std.proofs.Common.{◌∙◌}
use Rattle.whole_runs.proofs.Acting.{action_made}
use Rattle.whole_runs.proofs.actions.take_action.Goals as goal

pub returns-clause-action : goal.returns-clause-action
returns-clause-action g c =
    action_made c.args.machine.now.image c.image.result.now c.args.machine.now.world c.step-outcome.new.self.world
    c.args.step c.pc_of-pc.result c.step-outcome.result c.reference_of-reference.result c.word_met-before.result
    c.word_met-after.result c.deed_by.result c.access_by.result (c.image.ensures.is ∙ c.step-outcome.ensures.image)
    c.pc_of-pc.ensures c.step-outcome.ensures.world c.reference_of-reference.ensures c.word_met-before.ensures
    c.word_met-after.ensures c.deed_by.ensures c.access_by.ensures
