-- What is there, and the changes of the words that are left, are all.
use Rattle.std.proofs.Common.{◌≡◌, ◌++◌, drop}
use Rattle.world_keys.specs.MemoryNumbers.{changes, memory_numbers}
use Rattle.world_keys.proofs.memory_numbers.memory_numbers.Given as goal

abbrev pub invariant-loop-place : goal.invariant-loop-place
invariant-loop-place g l =
    l.numbers.items ++ changes l.place (drop l.place l.machine.image.cells) (drop l.place l.machine.world.memory.cells)
    ≡ memory_numbers l.machine.image l.machine.world.memory
