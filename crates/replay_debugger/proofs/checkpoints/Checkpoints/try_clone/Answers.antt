use Rattle.std.proofs.Common.{arith, sym, subst, ◌∙◌, List}
use Rattle.processor.specs.declared.steps.Step.{Step}
use Rattle.replay_debugger.specs.Places.{checkpoints_of}
use Rattle.replay_debugger.specs.Checkpoints.{AreCheckpoints, IsCheckpoint}
use Rattle.replay_debugger.proofs.OtherSchedule.{all_same}
use Rattle.replay_debugger.proofs.checkpoints.Checkpoints.try_clone.Goals as goal

pub invariant_of-result : goal.invariant_of-result
invariant_of-result g c =
    let s = c.self.inside in
    let course = checkpoints_of s.image.now s.schedule.items in
    let same = c.in_ok-schedule.ensures ∙ c.deref.ensures.value in
    let are : AreCheckpoints g.row.S course s.spacing c.start_clone.result c.kept_clones.result.items = record {
      room = c.self.invariant.room;
      positive = c.self.invariant.positive;
      first = c.start_clone.ensures course c.self.invariant.first;
      few = omega arith;
      each =
          c.kept_clones.ensures.are_kept course s.spacing
          (all_same (IsCheckpoint course s.spacing) s.kept.items c.deref-2.result.now c.deref-2.ensures.value
          c.self.invariant.each);
    } in
    subst (λ (ts : List Step).
    AreCheckpoints g.row.S (checkpoints_of s.image.now ts) s.spacing c.start_clone.result c.kept_clones.result.items)
    (sym same) are
