-- Lemmas of dead_registers that callers name, passed on.
pub use Rattle.dead_registers.proofs.Registers
pub use Rattle.dead_registers.proofs.Worlds
