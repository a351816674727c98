-- The runs of the seeds before the place meet all lines.
use Rattle.seed_work.specs.SeedWork.{MeetAllBefore}
use Rattle.seed_work.proofs.first_missed.first_missed_alone.Given as goal

abbrev pub invariant-loop-place : goal.invariant-loop-place
invariant-loop-place g l = MeetAllBefore l.image l.rules l.working.fair l.seeds l.place
