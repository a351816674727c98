use Rattle.std.proofs.Common.{◌<◌, ◌%◌, arith, ap, ◌∙◌, length}
use Rattle.replay_debugger.specs.declared.replay.Replay.{Replay}
use Rattle.replay_debugger.specs.Checkpoints.{IsCheckpoint}
use Rattle.replay_debugger.proofs.Keeping.{all_without, spaced_again}
use Rattle.replay_debugger.proofs.checkpoints.drop_between.Goals as goal

pub loop-place-preserved : goal.loop-place-preserved
loop-place-preserved g c =
    let old = c.loop-place.kept.items in
    let new = c.swap_remove.new.self.items in
    let i = c.loop-place.place in
    let below : i < length old = omega arith in
    record {
      few = omega arith;
      kept = λ course spacing all.
          all_without (IsCheckpoint course spacing) old new i c.swap_remove.result below c.swap_remove.ensures.items
          (c.loop-place.invariant.kept course spacing all);
      multiples = λ k d before.
          let same = c.swap_remove.ensures.by_index.1 k d (λ e. absurd (omega (arith, e, before)))
          (omega (arith, before)) in
          ap (λ (r : Replay g.row.S). r.position % c.args.spacing) same
          ∙ c.loop-place.invariant.multiples k d before;
    }

pub returns-clause-spaced : goal.returns-clause-spaced
returns-clause-spaced g c = λ course old all.
    spaced_again course old c.args.spacing c.loop-place.kept.items (c.loop-place.invariant.kept course old all)
    (λ k d below. c.loop-place.invariant.multiples k d (omega (arith, below)))
