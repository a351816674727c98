use Rattle.std.proofs.Common.{◌+◌, arith, refl, Some}
use Rattle.replay_debugger.proofs.Keeping.{nearer, no_nearer, looked_same, nearest_found, none_near}
use Rattle.replay_debugger.proofs.checkpoints.nearest_place.Goals.{then-least-replay+then-replay-goal}
use Rattle.replay_debugger.proofs.checkpoints.nearest_place.Goals.{else-least-replay}
use Rattle.replay_debugger.proofs.checkpoints.nearest_place.Goals.{else-least-replay-via-then-least-replay+else-replay-goal}
use Rattle.replay_debugger.proofs.checkpoints.nearest_place.Goals.{else-least-replay-via-else-least-replay}
use Rattle.replay_debugger.proofs.checkpoints.nearest_place.Goals as goal

pub loop-place-init : goal.loop-place-init
loop-place-init g c = record {
  from = omega arith;
  passed = λ k d before. absurd (omega (arith, before));
  there = tt;
  at = tt;
  within = tt;
  none = λ k d before. absurd (omega (arith, before));
  still = refl;
}

pub loop-place-preserved : goal.loop-place-preserved
loop-place-preserved g c =
    let kept = c.args.kept.now in
    let first = c.args.least in
    let goal = c.args.goal in
    let i = c.loop-place.place in
    let x = c.index-kept-place.result in
    elim c.if-least-replay.branch [
      | then-least-replay+then-replay-goal w ↦
          looked_same kept first goal (i + 1) x.position c.if-least-replay.least (Some i) c.if-least-replay.nearest
          (nearer kept first goal i c.loop-place.least c.loop-place.nearest x c.loop-place.invariant
          c.loop-place-test.true c.index-kept-place.is (omega arith) (omega arith)) w.least-is w.nearest-is
      | else-least-replay w ↦
          looked_same kept first goal (i + 1) c.loop-place.least c.if-least-replay.least c.loop-place.nearest
          c.if-least-replay.nearest
          (no_nearer kept first goal i c.loop-place.least c.loop-place.nearest x c.loop-place.invariant
          c.loop-place-test.true c.index-kept-place.is (λ near. elim w.else-least-replay.branch [
            | else-least-replay-via-then-least-replay+else-replay-goal v ↦ absurd (omega (arith, near))
            | else-least-replay-via-else-least-replay v ↦ omega arith
          ])) w.least-is w.nearest-is
    ]

pub returns-clause-there : goal.returns-clause-there
returns-clause-there g c = c.loop-place.invariant.there

pub returns-clause-nearest : goal.returns-clause-nearest
returns-clause-nearest g c =
    nearest_found c.args.kept.now c.args.least c.args.goal c.loop-place.place c.loop-place.least c.loop-place.nearest
    c.loop-place.invariant (omega arith)

pub returns-clause-none : goal.returns-clause-none
returns-clause-none g c =
    none_near c.args.kept.now c.args.least c.args.goal c.loop-place.place c.loop-place.least c.loop-place.nearest
    c.loop-place.invariant (omega arith)
