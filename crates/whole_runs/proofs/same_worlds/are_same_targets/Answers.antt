use Rattle.std.proofs.Common.{◌≤◌, length, refl, arith}
use Rattle.whole_runs.proofs.SameLists.{same_end, no_longer}
use Rattle.whole_runs.proofs.same_worlds.are_same_targets.Goals as goal

pub returns : goal.returns
returns c =
    let xs = c.args.a.now.targets in
    let ys = c.args.b.now.targets in
    let one : length xs ≤ 8 = no_longer xs 8 c.target-2.result c.target-2.ensures.is c.target-2.ensures.there in
    let other : length ys ≤ 8 = no_longer ys 8 c.target-4.result c.target-4.ensures.is c.target-4.ensures.there in (
      λ _. same_end xs ys c.loop-number.number (omega (arith, one, c.loop-number-test.false))
          (omega (arith, other, c.loop-number-test.false)) c.loop-number.invariant,
      λ _. refl,
    )
