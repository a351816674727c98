-- Lemmas of schedule_space that callers name, passed on.
pub use Rattle.seed_verdicts.proofs.ScheduleSpace.Agreeing
