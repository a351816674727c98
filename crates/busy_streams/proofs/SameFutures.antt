-- Lemmas of same_futures that callers name, passed on.
pub use Rattle.schedule_space.proofs.SameFutures.Alike
pub use Rattle.schedule_space.proofs.SameFutures.Chains
pub use Rattle.schedule_space.proofs.SameFutures.NoHandlers
