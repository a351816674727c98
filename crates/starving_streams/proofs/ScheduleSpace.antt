-- Lemmas of schedule_space that callers name, passed on.
pub use Rattle.schedule_space.proofs.Schedules
