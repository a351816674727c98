-- The runs of the seeds before the place are right.
use Rattle.seed_verdicts.specs.Seeds.{AreRightBefore}
use Rattle.seed_verdicts.proofs.first_flaws.first_flaw_alone.Given as goal

abbrev pub invariant-loop-place : goal.invariant-loop-place
invariant-loop-place g l = AreRightBefore l.image l.expected l.claims l.judging.fair l.seeds l.place
