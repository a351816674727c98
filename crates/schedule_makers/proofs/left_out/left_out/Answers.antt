use Rattle.std.proofs.Common.{◌<◌, length, rules, arith}
use Rattle.schedule_makers.specs.Priorities.{random_number, highest}
use Rattle.schedule_makers.proofs.LateTaken.{largest-at}
use Rattle.schedule_makers.proofs.left_out.left_out.Goals as goal

pub loop-step-preserved : goal.loop-step-preserved
loop-step-preserved c =
    let rank = random_number c.args.seed in
    let below : c.loop-step.step-index < length c.args.running.now = search rules in
    largest-at rank c.loop-step.most c.larger-most.result (highest rank c.args.running.now) c.args.running.now
    c.loop-step.step-index _ below c.loop-step.invariant c.larger-most.ensures (first_of (search rules, grind arith))
