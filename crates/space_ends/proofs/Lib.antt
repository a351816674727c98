mod Broken
mod Listing
mod Keeping
mod Spins
mod Shown
-- Of crates below, passed on to callers.
pub mod ScheduleSpace
pub mod ScheduleVerdicts
