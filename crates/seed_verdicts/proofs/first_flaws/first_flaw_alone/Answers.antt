use Rattle.std.proofs.Common.{None}
use Rattle.schedule_verdicts.proofs.Every.{below_more}
use Rattle.seed_verdicts.specs.Seeds.{IsSeedTold, seed_at}
use Rattle.seed_verdicts.proofs.first_flaws.first_flaw_alone.Goals as goal

pub loop-place-preserved : goal.loop-place-preserved
loop-place-preserved g c =
    below_more
    (λ k. IsSeedTold
    c.args.image.now c.args.expected.now c.args.claims.now c.in_ok-fair_length_of.field-0 c.args.seeds.most
    (seed_at c.args.seeds.first k) None)
    c.loop-place.place c.loop-place.invariant (rw c.in_default.is at c.in_ok-flaw.ensures.told)
