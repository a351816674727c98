-- Definitions of processor that callers name, passed on.
pub use Rattle.machine.specs.Processor.Processors
pub use Rattle.machine.specs.Processor.World
