-- What public contracts promise: when worlds that were found stand for all that schedules lead to, or for all ends.
pub mod FirstSets
pub mod Followed
pub mod Unseen
-- Of crates below, passed on to callers.
pub mod SameFutures
pub mod LocalSteps
