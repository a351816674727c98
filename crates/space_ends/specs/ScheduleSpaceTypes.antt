-- Types of schedule_space that callers name, passed on.
pub use Rattle.seed_verdicts.specs.ScheduleSpaceTypes.Exploration
pub use Rattle.seed_verdicts.specs.ScheduleSpaceTypes.Bound
