-- What public contracts promise, in the order of reading.
pub mod SharedMemory
pub mod Parts
pub mod Schedule
pub mod Gathering
pub mod FaultNumbers
