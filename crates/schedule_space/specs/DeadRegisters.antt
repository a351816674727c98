-- Definitions of dead_registers that callers name, passed on.
pub use Rattle.world_keys.specs.DeadRegisters.Clearing
