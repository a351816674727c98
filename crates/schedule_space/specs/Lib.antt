-- What public contracts promise: worlds with links and edges between them, and when they are all that schedules lead
-- to, or all ends.
pub mod Spaces
pub mod Kept
pub mod Fates
pub mod Reaching
pub mod Answers
pub mod KnownSteps
pub mod StreamSteps
pub mod Before
pub mod Finding
pub mod Followed
pub mod Quiet
pub mod Tables
pub mod Chosen
-- Of crates below, passed on to callers.
pub mod AgreeingEnds
pub mod DeadRegisters
pub mod SameFutures
