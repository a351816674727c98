pub mod Registers
pub mod Worlds
pub mod Schedules
