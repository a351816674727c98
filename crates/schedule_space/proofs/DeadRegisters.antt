-- Lemmas of dead_registers that callers name, passed on.
pub use Rattle.world_keys.proofs.DeadRegisters.Registers
pub use Rattle.world_keys.proofs.DeadRegisters.Worlds
