use Rattle.std.proofs.Common.{arith, sym, subst}
use Rattle.replay_debugger.specs.Checkpoints.{IsCheckpoint}
use Rattle.replay_debugger.proofs.checkpoints.kept_clones.kept_clones.Goals as goal

pub loop-replay-preserved : goal.loop-replay-preserved
loop-replay-preserved g c = record {
  few = omega arith;
  are_kept = λ course spacing all.
      let x = c.replay-item.result in
      let at : IsCheckpoint {size = g.row.S} course spacing x =
      subst (IsCheckpoint {size = g.row.S} course spacing) (sym c.replay-item.is)
      (all c.loop-replay.replay-index x c.loop-replay-test.true) in
      c.add_clone.ensures.are_kept course spacing at (c.loop-replay.invariant.are_kept course spacing all);
}
