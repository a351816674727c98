-- What public contracts promise: the numbers by which worlds are told apart.
pub mod Tables
pub mod RowLists
pub mod Buckets
pub mod StreamNumbers
pub mod MemoryNumbers
pub mod WorldKeys
pub mod Changes
-- Of crates below, passed on to callers.
pub mod DeadRegisters
