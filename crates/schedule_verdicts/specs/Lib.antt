pub mod RightEnds
pub mod NamedRegisters
pub mod KeptClaims
pub mod RightSpaces
pub mod ShownClaims
pub mod ClaimMarks
-- Cited by private contracts alone.
pub mod Walking
-- Of crates below, passed on to callers.
pub mod ScheduleSpace
pub mod ScheduleSpaceTypes
pub mod BusyStreams
