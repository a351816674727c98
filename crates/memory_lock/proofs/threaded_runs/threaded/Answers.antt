use Rattle.std.proofs.Common.{◌≡◌}
use Rattle.shared_history.specs.declared.gathering.GatherFault.TheVariants.{Torn}
use Rattle.memory_lock.proofs.Running.{is-threaded}
use Rattle.memory_lock.proofs.TurnRunning.{not-torn}
use Rattle.memory_lock.proofs.threaded_runs.threaded.Goals as goal

pub returns-in-Ok-gather-clause-ok : goal.returns-in-Ok-gather-clause-ok
returns-in-Ok-gather-clause-ok g c =
    is-threaded c.args.image.now c.args.fuel c.in-Ok.parts c.run_threads.result c.in-Ok-gather.woven
    c.in-Ok.ensures.is c.run_threads.ensures.run c.in-Ok-gather.ensures.ok

pub returns-in-Err-gather-clause-two : goal.returns-in-Err-gather-clause-two
returns-in-Err-gather-clause-two g c two parts p same =
    let is : c.in-Err-gather.fault ≡ Torn p = cc in
    not-torn c.args.image.now c.args.fuel c.in-Ok.parts c.run_threads.result c.in-Err-gather.fault p
    c.in-Ok.ensures.is c.run_threads.ensures.run c.run_threads.ensures.entries c.in-Err-gather.ensures.err.1 two is
