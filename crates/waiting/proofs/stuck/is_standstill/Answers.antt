use Rattle.waiting.proofs.Standing.{stays_for_ever}
use Rattle.waiting.proofs.stuck.is_standstill.Goals as goal

pub returns-then-some_run-clause-for_ever : goal.returns-then-some_run-clause-for_ever
returns-then-some_run-clause-for_ever g c =
    λ all. stays_for_ever c.args.machine.now.image c.args.machine.now.world (c.all_stuck.ensures.0 all)
