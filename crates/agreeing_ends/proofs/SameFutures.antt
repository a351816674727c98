-- Lemmas of same_futures that callers name, passed on.
pub use Rattle.same_futures.proofs.Alike
pub use Rattle.same_futures.proofs.Chains
pub use Rattle.same_futures.proofs.NoHandlers
