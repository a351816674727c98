-- What public contracts promise: the image and the world of a machine, and what holds of them.
pub mod MachineValue
-- Of a crate below, passed on to callers.
pub mod Processor
pub mod ProcessorTypes
