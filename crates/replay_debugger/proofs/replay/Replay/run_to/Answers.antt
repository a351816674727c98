use Rattle.std.proofs.Common.{arith, sym, ap, ◌∙◌, subst, length}
use Rattle.replay_debugger.specs.Places.{CheckpointsValue, IsOn}
use Rattle.replay_debugger.proofs.Replaying.{on_later}
use Rattle.replay_debugger.proofs.replay.Replay.run_to.Goals as goal

pub keep-requires : goal.keep-requires
keep-requires g c =
    let same = ap (λ (x : CheckpointsValue). length x.schedule) c.loop-self.invariant.kept in (
      omega arith,
      (
        omega arith,
        on_later c.loop-self.checkpoints c.schedule.result.now c.loop-self.self c.run.new.self
            c.pause_after-pause.result (omega arith) (omega (arith, same)) c.schedule.ensures c.run.ensures
            c.loop-self.invariant.on,
      ),
    )

pub loop-self-preserved : goal.loop-self-preserved
loop-self-preserved g c =
    let same = ap (λ (x : CheckpointsValue). length x.schedule) c.loop-self.invariant.kept in
    let on = on_later c.loop-self.checkpoints c.schedule.result.now c.loop-self.self c.run.new.self
    c.pause_after-pause.result (omega arith) (omega (arith, same)) c.schedule.ensures c.run.ensures
    c.loop-self.invariant.on in
    record {
      within = c.pause_after-pause.ensures.within;
      kept = c.keep.ensures ∙ c.loop-self.invariant.kept;
      on =
          subst (λ (x : CheckpointsValue).
          IsOn {size = g.row.S} x (record { machine = c.run.new.self; position = c.pause_after-pause.result }))
          (sym c.keep.ensures) on;
    }
