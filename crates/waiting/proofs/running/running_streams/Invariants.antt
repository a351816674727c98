-- The steps so far, and those of the processors that are left, are all.
use Rattle.std.proofs.Common.{◌≡◌, ◌++◌, drop}
use Rattle.waiting.specs.Running.{running_of, running_steps}
use Rattle.waiting.proofs.running.running_streams.Given as goal

abbrev pub invariant-loop-p : goal.invariant-loop-p
invariant-loop-p g l =
    l.running.items ++ running_of l.p (drop l.p l.machine.world.processors) ≡ running_steps l.machine.world
