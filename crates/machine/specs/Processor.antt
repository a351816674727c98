-- Definitions of processor that callers name, passed on.
pub use Rattle.processor.specs.OtherStreams
pub use Rattle.processor.specs.Processors
pub use Rattle.processor.specs.Records
pub use Rattle.processor.specs.Row
pub use Rattle.processor.specs.World
