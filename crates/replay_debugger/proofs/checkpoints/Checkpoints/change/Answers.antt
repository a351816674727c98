use Rattle.std.proofs.Common.{◌≡◌, arith, sym, ap, ◌∙◌, take}
use Rattle.replay_debugger.specs.Places.{CheckpointsValue, checkpoints_of}
use Rattle.replay_debugger.proofs.OtherSchedule.{start_other, kept_other}
use Rattle.replay_debugger.proofs.checkpoints.Checkpoints.change.Goals as goal

pub invariant_of-self : goal.invariant_of-self
invariant_of-self g c =
    let s = c.self.inside in
    let course = checkpoints_of s.image.now s.schedule.items in
    let new = c.args.schedule.items in
    let shared = c.args.shared in
    let same : take shared new ≡ take shared s.schedule.items =
    c.requires.same ∙ ap (λ (x : CheckpointsValue). take shared x.schedule) (sym c.self.view_is) in
    record {
      room = c.self.invariant.room;
      positive = c.self.invariant.positive;
      first = start_other course new shared s.start c.requires.within same c.self.invariant.first;
      few = omega arith;
      each =
          kept_other course new shared s.spacing c.drop_after.new.kept.items c.requires.within same
          (c.drop_after.ensures.were_kept course s.spacing c.self.invariant.each) c.drop_after.ensures.within;
    }
