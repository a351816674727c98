pub mod Worlds
pub mod Loading
-- Of a crate below, passed on to callers.
pub mod Processor
