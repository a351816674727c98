-- Definitions of schedule_space that callers name, passed on.
pub use Rattle.busy_streams.specs.ScheduleSpace.Answers
pub use Rattle.busy_streams.specs.ScheduleSpace.Fates
pub use Rattle.busy_streams.specs.ScheduleSpace.Followed
pub use Rattle.busy_streams.specs.ScheduleSpace.Quiet
pub use Rattle.busy_streams.specs.ScheduleSpace.Reaching
pub use Rattle.busy_streams.specs.ScheduleSpace.Spaces
