-- The steps so far, and those of the streams that are left, are all.
use Rattle.std.proofs.Common.{◌≡◌, ◌++◌, drop, slice_get}
use Rattle.waiting.specs.Running.{streams_at, running_from}
use Rattle.waiting.proofs.running.push_running.Given as goal

abbrev pub invariant-loop-s : goal.invariant-loop-s
invariant-loop-s g l =
    l.running.items ++ running_from l.p l.s (drop l.s (streams_at (slice_get l.machine.world.processors l.p)))
    ≡ l.fn.running.items ++ running_from l.p 0 (streams_at (slice_get l.machine.world.processors l.p))
