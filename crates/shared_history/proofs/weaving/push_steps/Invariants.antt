-- The steps so far are in, and there is room for the others.
use Rattle.std.proofs.Common.{◌≡◌, ◌≤◌, ◌+◌, ◌-◌, ◌++◌, map, vec_len, vec_capacity}
use Rattle.std.specs.Prelude.{slice_range}
use Rattle.processor.specs.Histories.{step_by}
use Rattle.shared_history.proofs.weaving.push_steps.Given as goal

abbrev pub invariant-loop-place : goal.invariant-loop-place
invariant-loop-place l =
    (l.schedule.items ≡ l.initial.schedule.items ++ map (step_by l.p) (slice_range l.steps.numbers l.from l.place))
    × (vec_len l.schedule ≡ vec_len l.initial.schedule + (l.place - l.from))
    × (vec_capacity l.schedule ≡ vec_capacity l.initial.schedule)
    × (vec_len l.initial.schedule + (l.upto - l.from) ≤ vec_capacity l.initial.schedule)
    × (l.from ≤ l.place)
    × (l.place ≤ l.upto)

abbrev pub decreases-loop-place : goal.decreases-loop-place
decreases-loop-place l = l.upto - l.place
