use Rattle.std.proofs.Common.{ap}
use Rattle.memory_lock.specs.Driving.{IsGrown}
use Rattle.memory_lock.proofs.threads.drive_all.Goals as goal

pub returns-then-count-gt0 : goal.returns-then-count-gt0
returns-then-count-gt0 g c p d h =
    let x = (c.for_each_mut.ensures p d h).1 in
    let v = g.W.Worker.value in
    let y : IsGrown c.args.fuel (v x.argument.now) (v x.after_call.now) = x.call in
    rw (← ap v x.argument_is, ← ap v x.left) y
