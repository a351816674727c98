-- The runs of the seeds before the place meet all lines.
use Rattle.std.proofs.Common.{◌≤◌, ◌-◌}
use Rattle.seed_work.specs.SeedWork.{MeetAllBefore}
use Rattle.seed_work.proofs.first_missed.first_missed_by_seeds.Given as goal

abbrev pub invariant-loop-begin : goal.invariant-loop-begin
invariant-loop-begin g l = record {
  within : l.begin ≤ l.seeds.count;
  some : 1 ≤ l.count;
  few : l.count ≤ 256;
  meet : MeetAllBefore l.image l.rules l.working.fair l.seeds l.begin;
}

abbrev pub decreases-loop-begin : goal.decreases-loop-begin
decreases-loop-begin g l = l.seeds.count - l.begin
