use Rattle.std.proofs.Common.{◌<◌, arith, ap, length}
use Rattle.replay_debugger.specs.declared.replay.Replay.{Replay}
use Rattle.replay_debugger.specs.Checkpoints.{IsCheckpoint}
use Rattle.replay_debugger.proofs.Keeping.{all_without}
use Rattle.replay_debugger.proofs.checkpoints.other_schedule.drop_after.Goals as goal

pub loop-place-preserved : goal.loop-place-preserved
loop-place-preserved g c =
    let old = c.loop-place.kept.items in
    let new = c.swap_remove.new.self.items in
    let i = c.loop-place.place in
    let below : i < length old = omega arith in
    record {
      few = omega arith;
      were_kept = λ course spacing all.
          all_without (IsCheckpoint course spacing) old new i c.swap_remove.result below c.swap_remove.ensures.items
          (c.loop-place.invariant.were_kept course spacing all);
      within = λ k d before.
          let same = c.swap_remove.ensures.by_index.1 k d (λ e. absurd (omega (arith, e, before)))
          (omega (arith, before)) in
          let at = ap (λ (r : Replay g.row.S). r.position) same in
          let was = c.loop-place.invariant.within k d before in
          omega (arith, at, was);
    }
