-- Lemmas of same_futures that callers name, passed on.
pub use Rattle.agreeing_ends.proofs.SameFutures.Alike
pub use Rattle.agreeing_ends.proofs.SameFutures.Chains
pub use Rattle.agreeing_ends.proofs.SameFutures.NoHandlers
