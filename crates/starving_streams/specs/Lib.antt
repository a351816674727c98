-- What public contracts promise: streams that can wait for ever, and what is said of them.
pub mod Rests
pub mod Starving
pub mod Reports
-- and the graph of a space.
pub mod Graphs
-- Of crates below, passed on to callers.
pub mod Claims
pub mod ClaimsTypes
pub mod ScheduleSpace
