-- Definitions of run_answers that callers name, passed on.
pub use Rattle.endless_waits.specs.RunAnswers.Leading
pub use Rattle.endless_waits.specs.RunAnswers.Overtaking
pub use Rattle.endless_waits.specs.RunAnswers.Answers
pub use Rattle.endless_waits.specs.Kept
