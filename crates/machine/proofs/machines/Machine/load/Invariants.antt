-- The processors so far are those of the first entries.
use Rattle.std.proofs.Common.{◌≡◌, take, map}
use Rattle.processor.specs.Processors.{opening}
use Rattle.machine.proofs.machines.Machine.load.Given as goal

abbrev pub invariant-loop-number : goal.invariant-loop-number
invariant-loop-number g l = l.processors.items ≡ map (opening l.image) (take l.number l.image.entries)
