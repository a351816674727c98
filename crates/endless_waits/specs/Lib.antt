-- What public contracts promise: of which searches it is said who can wait forever, or whether all runs keep conditions,
-- and what is said.
pub mod Waits
pub mod Kept
-- Of crates below, passed on to callers.
pub mod StarvingStreams
pub mod StarvingStreamsTypes
pub mod RunAnswers
pub mod RunAnswersTypes
