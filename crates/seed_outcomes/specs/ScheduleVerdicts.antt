-- Definitions of schedule_verdicts that callers name, passed on.
pub use Rattle.space_ends.specs.ScheduleVerdicts.RightEnds
pub use Rattle.space_ends.specs.ScheduleVerdicts.ShownClaims
