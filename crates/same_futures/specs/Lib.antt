-- What public contracts promise: worlds that differ in registers and condition codes alone that do not matter, what is the
-- same in them, and whether a trap of a running stream may have a handler.
pub mod Links
pub mod Agreeing
pub mod Handlers
-- Of crates below, passed on to callers.
pub mod LocalSteps
pub mod EndKindsTypes
