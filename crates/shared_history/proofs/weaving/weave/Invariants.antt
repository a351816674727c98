-- The schedule so far, and room for the steps that are left.
use Rattle.std.proofs.Common.{◌≤◌, ◌+◌, length, vec_len, vec_capacity}
use Rattle.shared_history.proofs.SoFar.{IsSoFar, IsCounted}
use Rattle.shared_history.proofs.Endings.{AllDone}
use Rattle.shared_history.proofs.Room.{left}
use Rattle.shared_history.proofs.weaving.weave.Given as goal

abbrev pub invariant-loop-entry : goal.invariant-loop-entry
invariant-loop-entry g l =
    (IsSoFar l.shared l.records l.schedule.items l.done.items l.entry-index
    × IsCounted l.shared l.taken.items l.entry-index)
    × (vec_len l.schedule + left l.records l.done.items ≤ vec_capacity l.schedule)

abbrev pub invariant-loop-p : goal.invariant-loop-p
invariant-loop-p g l =
    (IsSoFar l.shared l.records l.schedule.items l.done.items (length l.shared.history)
    × AllDone l.records l.done.items l.p)
    × (vec_len l.schedule + left l.records l.done.items ≤ vec_capacity l.schedule)
