-- The processors so far are the first ones.
use Rattle.std.proofs.Common.{◌≡◌, take}
use Rattle.machine.proofs.machines.Machine.try_clone.Given as goal

abbrev pub invariant-loop-processor : goal.invariant-loop-processor
invariant-loop-processor g l = l.processors.items ≡ take l.processor-index l.processor-items
