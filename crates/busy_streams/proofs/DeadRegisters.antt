-- Lemmas of dead_registers that callers name, passed on.
pub use Rattle.schedule_space.proofs.DeadRegisters.Registers
pub use Rattle.schedule_space.proofs.DeadRegisters.Worlds
