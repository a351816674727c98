pub mod Places
pub mod RowLists
pub mod Linking
pub mod Digits
pub mod Streams
pub mod Memories
pub mod Marks
pub mod Clearings
pub mod Readings
pub mod Worlds
pub mod Replacing
pub mod Removing
pub mod Nexts
-- Of crates below, passed on to callers.
pub mod DeadRegisters
