-- Types of end_states that callers name, passed on.
pub use Rattle.end_states.specs.contracts.judgements.EndJudgementPartialEq
pub use Rattle.end_states.specs.declared.judgements.EndJudgement
pub use Rattle.end_states.specs.declared.states.EndState
