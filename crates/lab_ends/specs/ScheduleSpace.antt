-- Definitions of schedule_space that callers name, passed on.
pub use Rattle.space_ends.specs.ScheduleSpace.Spaces
