-- The outcomes so far are those of the seeds before the place.
use Rattle.seed_outcomes.specs.SeedLists.{seeds_between}
use Rattle.seed_outcomes.specs.SeedRuns.{surveyed_program}
use Rattle.seed_outcomes.specs.Outcomes.{AreOutcomes}
use Rattle.seed_outcomes.proofs.seed_runs.outcomes_between.Given as goal

abbrev pub invariant-loop-place : goal.invariant-loop-place
invariant-loop-place g l =
    AreOutcomes (surveyed_program l.surveyed) (seeds_between l.first l.begin l.place) l.outcomes.items
