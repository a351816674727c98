-- The steps of a space as links, the ends of claims that are broken, the ends at which runs end, those that spin, those
-- where a stream loops alone, which claim an end says to be broken first, and when a listed end is as expected.
pub mod Links
pub mod BrokenClaims
pub mod EndsOfSpace
pub mod Spinning
pub mod Loops
pub mod FirstBroken
pub mod Judging
pub mod Words
pub mod Shown
-- Of crates below, passed on to callers.
pub mod EndStates
pub mod EndStatesTypes
pub mod ScheduleSpace
pub mod ScheduleSpaceTypes
pub mod ScheduleVerdicts
pub mod BusyStreams
pub mod SeedVerdicts
pub mod SeedVerdictsTypes
