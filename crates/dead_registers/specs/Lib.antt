-- What public contracts promise: worlds in which registers and condition codes that do not matter hold 0.
pub mod Clearing
