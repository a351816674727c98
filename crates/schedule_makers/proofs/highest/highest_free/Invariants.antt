-- The highest of all is the best so far or one of those that are left.
use Rattle.std.proofs.Common.{◌≡◌, filter, drop}
use Rattle.schedule_makers.specs.Free.{is_free}
use Rattle.schedule_makers.specs.Priorities.{highest, highest_from}
use Rattle.schedule_makers.specs.Changes.{rank_of, IsRanked, step_of}
use Rattle.schedule_makers.proofs.highest.highest_free.Given as goal

abbrev pub invariant-loop-step : goal.invariant-loop-step
invariant-loop-step g l = record {
  left : highest_from (rank_of l.ranks) (step_of l.best)
      (filter (is_free l.machine.image l.machine.world) (drop l.step-index l.steps))
      ≡ highest (rank_of l.ranks) (filter (is_free l.machine.image l.machine.world) l.steps);
  known : IsRanked l.ranks l.best;
}
