-- Definitions of end_states that callers name, passed on.
pub use Rattle.space_ends.specs.EndStates.EndStates
pub use Rattle.space_ends.specs.EndStates.Judgements
