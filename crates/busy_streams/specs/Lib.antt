-- What public contracts promise: streams that loop alone, of a world, of a space and of all schedules.
pub mod Busy
pub mod BusySpaces
-- Cited by private contracts alone.
pub mod OwnCycles
-- Of crates below, passed on to callers.
pub mod ScheduleSpace
pub mod ScheduleSpaceTypes
pub mod AgreeingEnds
pub mod DeadRegisters
pub mod SameFutures
