-- Lemmas of local_steps that callers name, passed on.
pub use Rattle.local_steps.proofs.Alone
pub use Rattle.local_steps.proofs.Commuting
pub use Rattle.local_steps.proofs.Ended
pub use Rattle.local_steps.proofs.Ending
pub use Rattle.local_steps.proofs.Free
pub use Rattle.local_steps.proofs.Orders
pub use Rattle.local_steps.proofs.Told
