use Rattle.std.proofs.Common.{◌∙◌, ap}
use Rattle.machine.specs.MachineValue.{MachineValue}
use Rattle.whole_runs.specs.RunActions.{actions_of}
use Rattle.work_rules.specs.Work.{first_missed}
use Rattle.work_rules.proofs.runs.first_missed_by.Goals as goal

pub returns-clause-missed : goal.returns-clause-missed
returns-clause-missed g c =
    let ts = c.args.schedule.now in
    let rules = c.args.rules.now in
    c.first_missed.ensures
    ∙ ap (λ ds. first_missed ds rules) (c.deref.ensures.value ∙ c.in_ok-actions.ensures.actions)
    ∙ ap (λ (m : MachineValue). first_missed (actions_of m.image m.world ts) rules) c.in_ok-machine.ensures.is
