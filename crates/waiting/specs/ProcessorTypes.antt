-- Types of processor that callers name, passed on.
pub use Rattle.machine.specs.ProcessorTypes.Step
