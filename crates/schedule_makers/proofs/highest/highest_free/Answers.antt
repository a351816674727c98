use Rattle.std.proofs.Common.{◌<◌, filter, length, rules, arith}
use Rattle.schedule_makers.specs.Free.{is_free}
use Rattle.schedule_makers.specs.Priorities.{highest}
use Rattle.schedule_makers.specs.Changes.{rank_of, step_of}
use Rattle.schedule_makers.proofs.HighestFree.{highest-at}
use Rattle.schedule_makers.proofs.highest.highest_free.Goals as goal

pub loop-step-preserved : goal.loop-step-preserved
loop-step-preserved g c =
    let rank = rank_of c.args.ranks.now in
    let free = is_free c.args.machine.now.image c.args.machine.now.world in
    let below : c.loop-step.step-index < length c.args.steps.now = search rules in
    record {
      left = highest-at rank free (step_of c.loop-step.best) (step_of c.better-best.result)
          (highest rank (filter free c.args.steps.now)) c.args.steps.now c.loop-step.step-index _
          below c.loop-step.invariant.left c.better-best.ensures.is (first_of (search rules, grind arith));
      known = c.better-best.ensures.ranked;
    }
