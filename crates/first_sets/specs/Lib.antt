-- What public contracts promise: when the steps of a set are apart from those of all others.
pub mod UnreadLoads
pub mod ApartSets
pub mod NoForwardBits
-- Of crates below, passed on to callers.
pub mod CommutingRequests
pub mod LocalSteps
