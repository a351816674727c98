-- There are as many, and the first of them are right.
use Rattle.std.proofs.Common.{◌≡◌, ℕ, ◌<◌, length}
use Rattle.stream_core.specs.Registers.{register_at}
use Rattle.dead_registers.specs.Clearing.{kept_registers}
use Rattle.dead_registers.proofs.live_registers.LiveRegisters.registers.Given as goal

abbrev pub invariant-loop-register : goal.invariant-loop-register
invariant-loop-register l =
    (length l.registers ≡ 32)
    × ((k : ℕ) → k < l.register → register_at l.registers k ≡ register_at (kept_registers l.self l.stream) k)
