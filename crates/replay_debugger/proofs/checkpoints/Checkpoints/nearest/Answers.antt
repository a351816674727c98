use Rattle.std.proofs.Common.{arith}
use Rattle.replay_debugger.specs.Places.{checkpoints_of}
use Rattle.replay_debugger.specs.Checkpoints.{IsCheckpoint}
use Rattle.replay_debugger.proofs.Keeping.{all_without}
use Rattle.replay_debugger.proofs.checkpoints.Checkpoints.nearest.Goals as goal

pub invariant_of-self : goal.invariant_of-self
invariant_of-self g c =
    let s = c.self.inside in
    let now = c.swap_remove.ensures in
    record {
      room = c.self.invariant.room;
      positive = c.self.invariant.positive;
      first = c.self.invariant.first;
      few = omega arith;
      each =
          all_without (IsCheckpoint (checkpoints_of s.image.now s.schedule.items) s.spacing) s.kept.items
          c.swap_remove.new.self.items c.in_ok-place.place c.swap_remove.result
          (omega (arith, c.in_ok-place.ensures.there, c.deref.ensures.len)) now.items
          c.self.invariant.each;
    }
