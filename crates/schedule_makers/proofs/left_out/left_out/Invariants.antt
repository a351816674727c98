-- The first of the largest number of all is the one so far or one of those that are left.
use Rattle.std.proofs.Common.{◌≡◌, drop}
use Rattle.schedule_makers.specs.Priorities.{random_number, highest, highest_from}
use Rattle.schedule_makers.proofs.left_out.left_out.Given as goal

abbrev pub invariant-loop-step : goal.invariant-loop-step
invariant-loop-step l =
    highest_from (random_number l.seed) l.most (drop l.step-index l.running)
    ≡ highest (random_number l.seed) l.running
