pub mod Moving
pub mod FreeSets
pub mod Reached
pub mod Grounded
pub mod Keeping
-- Of crates below, passed on to callers.
pub mod SameFutures
pub mod LocalSteps
