use Rattle.std.proofs.Common.{arith}
use Rattle.run_rounds.proofs.Runs.{after_run, of_one_image}
use Rattle.run_rounds.proofs.states.differences_at.Goals as goal

pub world_differences-requires : goal.world_differences-requires
world_differences-requires g c =
    let image = c.args.image.now in
    let front = c.first_steps.result.now in
    let all = c.args.schedule.now in
    let one = c.run.new.self in
    let other = c.run-2.new.self in
    let at = after_run image front c.in_ok-one.one one c.in_ok-one.ensures.is c.run.ensures in
    let to = after_run image all c.in_ok-other.other other c.in_ok-other.ensures.is c.run-2.ensures in
    (omega arith, (omega arith, of_one_image image front all one other at to))
