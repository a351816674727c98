-- Types of run_answers that callers name, passed on.
pub use Rattle.endless_waits.specs.RunAnswersTypes.EvadingRun
pub use Rattle.endless_waits.specs.RunAnswersTypes.RunAnswer
pub use Rattle.endless_waits.specs.RunAnswersTypes.RunEnd
pub use Rattle.endless_waits.specs.RunAnswersTypes.RunCondition
pub use Rattle.endless_waits.specs.RunAnswersTypes.Fairness
pub use Rattle.endless_waits.specs.RunAnswersTypes.Rest
pub use Rattle.endless_waits.specs.declared.kept.KeptConditions
