-- Of crates below, passed on to callers.
pub mod SpaceEnds
pub mod SpaceEndsTypes
pub mod ScheduleSpace
