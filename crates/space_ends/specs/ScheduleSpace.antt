-- Definitions of schedule_space that callers name, passed on.
pub use Rattle.seed_verdicts.specs.ScheduleSpace.Answers
pub use Rattle.seed_verdicts.specs.ScheduleSpace.Followed
pub use Rattle.seed_verdicts.specs.ScheduleSpace.Quiet
pub use Rattle.seed_verdicts.specs.ScheduleSpace.Reaching
pub use Rattle.seed_verdicts.specs.ScheduleSpace.Spaces
