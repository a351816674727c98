-- Lemmas of schedule_verdicts that callers name, passed on.
pub use Rattle.space_ends.proofs.ScheduleVerdicts.Every
