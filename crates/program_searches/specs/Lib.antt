-- What public contracts promise: what a search among the schedules of a program comes to, which streams that loop alone it
-- lists, who can wait forever in it, which conditions its runs keep, its status, and the words for what ended it.
pub mod Bounds
pub mod Statuses
pub mod Shortest
pub mod Loops
pub mod Waits
pub mod Kept
pub mod Searches
-- Of crates below, passed on to callers.
pub mod EndlessWaits
pub mod EndlessWaitsTypes
pub mod StarvingStreams
pub mod StarvingStreamsTypes
pub mod RunAnswers
pub mod RunAnswersTypes
