mod Places
mod Worst
mod Answered
mod Chunks
-- Of crates below, passed on to callers.
pub mod ScheduleVerdicts
pub mod ScheduleSpace
