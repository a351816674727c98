-- Types of run_answers that callers name, passed on.
pub use Rattle.run_answers.specs.declared.answers.EvadingRun
pub use Rattle.run_answers.specs.declared.answers.RunAnswer
pub use Rattle.run_answers.specs.declared.answers.RunEnd
pub use Rattle.run_answers.specs.ConditionsTypes.RunCondition
pub use Rattle.run_answers.specs.ConditionsTypes.Fairness
pub use Rattle.run_answers.specs.ConditionsTypes.Rest
