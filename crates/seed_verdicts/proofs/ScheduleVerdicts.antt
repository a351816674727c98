-- Lemmas of schedule_verdicts that callers name, passed on.
pub use Rattle.schedule_verdicts.proofs.Every
