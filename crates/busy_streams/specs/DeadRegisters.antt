-- Definitions of dead_registers that callers name, passed on.
pub use Rattle.schedule_space.specs.DeadRegisters.Clearing
