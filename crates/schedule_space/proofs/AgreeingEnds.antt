-- Lemmas of agreeing_ends that callers name, passed on.
pub use Rattle.agreeing_ends.proofs.FreeSets
pub use Rattle.agreeing_ends.proofs.Keeping
pub use Rattle.agreeing_ends.proofs.Moving
