use Rattle.std.proofs.Common.{rules}
use Rattle.schedule_verdicts.proofs.Every.{below_more}
use Rattle.seed_verdicts.specs.Seeds.{seed_at}
use Rattle.seed_verdicts.specs.ShownBySeeds.{IsUnshownBySeed}
use Rattle.seed_verdicts.proofs.shown_claims.is_shown_by_seeds.Goals as goal

pub loop-place-preserved : goal.loop-place-preserved
loop-place-preserved g c =
    below_more
    (λ k. IsUnshownBySeed c.args.image.now c.args.fair c.args.seeds.most (seed_at c.args.seeds.first k) c.args.claim.now)
    c.loop-place.place c.loop-place.invariant (c.in_ok-is_shown_by_seed.ensures.unshown (search rules))

pub returns-then-branch-clause-shown : goal.returns-then-branch-clause-shown
returns-then-branch-clause-shown g c =
    λ yes. (c.loop-place.place, search rules, c.in_ok-is_shown_by_seed.ensures.shown (search rules))
