-- Lemmas of agreeing_ends that callers name, passed on.
pub use Rattle.schedule_space.proofs.AgreeingEnds.FreeSets
pub use Rattle.schedule_space.proofs.AgreeingEnds.Keeping
pub use Rattle.schedule_space.proofs.AgreeingEnds.Moving
