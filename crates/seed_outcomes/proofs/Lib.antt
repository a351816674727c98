mod Shares
mod SeedLists
mod Places
mod Lines
mod Added
mod Surveyed
mod SeedParts
mod Answered
mod EqualTests
-- Of crates below, passed on to callers.
pub mod ScheduleVerdicts
