-- What is there, and the halves of the registers that are left, are all.
use Rattle.std.proofs.Common.{◌≡◌, ◌++◌, drop}
use Rattle.world_keys.specs.StreamNumbers.{all_halves}
use Rattle.world_keys.proofs.stream_numbers.push_registers.Given as goal

abbrev pub invariant-loop-register : goal.invariant-loop-register
invariant-loop-register l =
    l.numbers.items ++ all_halves (drop l.register l.registers)
    ≡ l.fn.numbers.items ++ all_halves l.registers
