-- Types of schedule_space that callers name, passed on.
pub use Rattle.schedule_verdicts.specs.ScheduleSpaceTypes.Exploration
pub use Rattle.schedule_verdicts.specs.ScheduleSpaceTypes.Fate
pub use Rattle.schedule_verdicts.specs.ScheduleSpaceTypes.Edge
pub use Rattle.schedule_verdicts.specs.ScheduleSpaceTypes.Bound
