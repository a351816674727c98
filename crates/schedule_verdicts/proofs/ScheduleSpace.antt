-- Lemmas of schedule_space that callers name, passed on.
pub use Rattle.busy_streams.proofs.ScheduleSpace.Agreeing
