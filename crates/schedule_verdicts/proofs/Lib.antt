mod Alike
mod StandIns
mod Looking
pub mod Resting
pub mod Every
mod Each
mod Sought
pub mod OnTheWay
mod Unseen
mod Shown
mod Marks
mod LeadingOn
-- Of crates below, passed on to callers.
pub mod ScheduleSpace
