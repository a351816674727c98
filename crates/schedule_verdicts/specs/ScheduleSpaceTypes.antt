-- Types of schedule_space that callers name, passed on.
pub use Rattle.busy_streams.specs.ScheduleSpaceTypes.Exploration
pub use Rattle.busy_streams.specs.ScheduleSpaceTypes.Fate
pub use Rattle.busy_streams.specs.ScheduleSpaceTypes.Edge
pub use Rattle.busy_streams.specs.ScheduleSpaceTypes.Bound
