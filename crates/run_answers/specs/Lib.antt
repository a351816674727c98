-- What public contracts promise: which conditions lead to which, how often streams are overtaken, and what is said of it.
pub mod Leading
pub mod Overtaking
pub mod Answers
-- Cited by private contracts alone.
pub mod Marks
pub mod Waiting
-- Of crates below, passed on to callers.
pub mod StarvingStreams
pub mod StarvingStreamsTypes
pub mod ConditionsTypes
