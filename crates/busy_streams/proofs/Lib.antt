mod OwnLinks
mod Begun
mod Cycles
mod Told
mod Growing
mod First
-- Of crates below, passed on to callers.
pub mod ScheduleSpace
pub mod AgreeingEnds
pub mod DeadRegisters
pub mod SameFutures
