-- The step is there as often as the loop went round, and there is room for the others.
use Rattle.std.proofs.Common.{◌≡◌, ◌≤◌, ◌+◌, ◌++◌, replicate, vec_len, vec_capacity}
use Rattle.shared_history.proofs.weaving.push_run.Given as goal

abbrev pub invariant-loop : goal.invariant-loop
invariant-loop l =
    (l.schedule.items ≡ l.initial.schedule.items ++ replicate l.counter l.step)
    × (vec_len l.schedule ≡ vec_len l.initial.schedule + l.counter)
    × (vec_capacity l.schedule ≡ vec_capacity l.initial.schedule)
    × (vec_len l.initial.schedule + l.count ≤ vec_capacity l.initial.schedule)
