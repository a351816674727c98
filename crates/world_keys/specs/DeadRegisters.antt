-- Definitions of dead_registers that callers name, passed on.
pub use Rattle.dead_registers.specs.Clearing
