use Rattle.seed_verdicts.proofs.ScheduleVerdicts.Every.{below_more}
use Rattle.seed_verdicts.specs.Seeds.{seed_at}
use Rattle.seed_work.specs.SeedWork.{MeetsAll}
use Rattle.seed_work.proofs.first_missed.first_missed_alone.Goals as goal

pub loop-place-preserved : goal.loop-place-preserved
loop-place-preserved g c =
    below_more
    (λ k. MeetsAll
    c.args.image.now c.args.rules.now c.in_ok-fair_length_of.field-0 c.args.seeds.most (seed_at c.args.seeds.first k))
    c.loop-place.place c.loop-place.invariant (rw c.in_default.is at c.in_ok-missed.ensures.known)
