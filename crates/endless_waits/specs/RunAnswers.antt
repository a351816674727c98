-- Definitions of run_answers that callers name, passed on.
pub use Rattle.run_answers.specs.Leading
pub use Rattle.run_answers.specs.Overtaking
pub use Rattle.run_answers.specs.Answers
