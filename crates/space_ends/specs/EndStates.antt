-- Definitions of end_states that callers name, passed on.
pub use Rattle.end_states.specs.EndStates
pub use Rattle.end_states.specs.Judgements
