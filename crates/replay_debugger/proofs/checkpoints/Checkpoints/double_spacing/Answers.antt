use Rattle.std.proofs.Common.{arith}
use Rattle.replay_debugger.specs.Places.{checkpoints_of}
use Rattle.replay_debugger.proofs.checkpoints.Checkpoints.double_spacing.Goals as goal

pub invariant_of-self : goal.invariant_of-self
invariant_of-self g c =
    let s = c.self.inside in
    record {
      room = c.self.invariant.room;
      positive = omega (arith, c.saturating_mul-spacing.ensures);
      first = c.self.invariant.first;
      few = omega arith;
      each =
          c.drop_between.ensures.spaced (checkpoints_of s.image.now s.schedule.items) s.spacing c.self.invariant.each;
    }
