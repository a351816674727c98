-- What public contracts promise: which streams run, which of them are stuck, and what a stream waits for.
pub mod Running
pub mod Stuck
pub mod Waits
-- Cited by private contracts alone.
pub mod Deciding
-- Of crates below, passed on to callers.
pub mod Machine
pub mod Processor
pub mod ProcessorTypes
pub mod StreamCore
pub mod StreamCoreTypes
pub mod ImageFile
