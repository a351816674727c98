-- The runs of the seeds before the place are right.
use Rattle.std.proofs.Common.{◌≤◌, ◌-◌}
use Rattle.seed_verdicts.specs.Seeds.{AreRightBefore}
use Rattle.seed_verdicts.proofs.first_flaws.first_flaw.Given as goal

abbrev pub invariant-loop-begin : goal.invariant-loop-begin
invariant-loop-begin g l = record {
  within : l.begin ≤ l.seeds.count;
  some : 1 ≤ l.count;
  few : l.count ≤ 256;
  right : AreRightBefore l.image l.expected l.claims l.judging.fair l.seeds l.begin;
}

abbrev pub decreases-loop-begin : goal.decreases-loop-begin
decreases-loop-begin g l = l.seeds.count - l.begin
