-- Definitions of agreeing_ends that callers name, passed on.
pub use Rattle.schedule_space.specs.AgreeingEnds.Followed
pub use Rattle.schedule_space.specs.AgreeingEnds.Unseen
