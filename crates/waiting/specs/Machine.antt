-- Definitions of machine that callers name, passed on.
pub use Rattle.machine.specs.MachineValue
