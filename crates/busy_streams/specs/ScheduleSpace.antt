-- Definitions of schedule_space that callers name, passed on.
pub use Rattle.schedule_space.specs.Answers
pub use Rattle.schedule_space.specs.Fates
pub use Rattle.schedule_space.specs.Finding
pub use Rattle.schedule_space.specs.Followed
pub use Rattle.schedule_space.specs.Quiet
pub use Rattle.schedule_space.specs.Reaching
pub use Rattle.schedule_space.specs.Spaces
