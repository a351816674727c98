-- The outcomes so far are those of the seeds before the place.
use Rattle.std.proofs.Common.{◌≤◌, ◌-◌}
use Rattle.seed_outcomes.specs.SeedLists.{seeds_between}
use Rattle.seed_outcomes.specs.SeedRuns.{surveyed_program}
use Rattle.seed_outcomes.specs.Outcomes.{AreOutcomes}
use Rattle.seed_outcomes.proofs.surveys.outcomes_on.Given as goal

abbrev pub invariant-loop-begin : goal.invariant-loop-begin
invariant-loop-begin g l = record {
  within : l.begin ≤ l.seeds.count;
  outcomes : AreOutcomes (surveyed_program l.surveyed) (seeds_between l.seeds.first 0 l.begin) l.outcomes.items;
}

abbrev pub decreases-loop-begin : goal.decreases-loop-begin
decreases-loop-begin g l = l.seeds.count - l.begin
