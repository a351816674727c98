-- Lemmas of schedule_verdicts that callers name, passed on.
pub use Rattle.seed_verdicts.proofs.ScheduleVerdicts.Every
