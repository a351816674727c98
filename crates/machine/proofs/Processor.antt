-- Lemmas of processor that callers use, passed on.
pub use Rattle.processor.proofs.Begun
pub use Rattle.processor.proofs.Counting
pub use Rattle.processor.proofs.Histories
pub use Rattle.processor.proofs.OtherStreams
pub use Rattle.processor.proofs.World
