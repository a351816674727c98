-- Lemmas of schedule_space that callers name, passed on.
pub use Rattle.schedule_space.proofs.Agreeing
pub use Rattle.schedule_space.proofs.Alone
pub use Rattle.schedule_space.proofs.Following
pub use Rattle.schedule_space.proofs.FreeSteps
pub use Rattle.schedule_space.proofs.QuietSteps
pub use Rattle.schedule_space.proofs.Schedules
