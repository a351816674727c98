-- Lemmas of local_steps that callers name, passed on.
pub use Rattle.same_futures.proofs.LocalSteps.Alone
pub use Rattle.same_futures.proofs.LocalSteps.Commuting
pub use Rattle.same_futures.proofs.LocalSteps.Ended
pub use Rattle.same_futures.proofs.LocalSteps.Ending
pub use Rattle.same_futures.proofs.LocalSteps.Orders
pub use Rattle.same_futures.proofs.LocalSteps.Told
