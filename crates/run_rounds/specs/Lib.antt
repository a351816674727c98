-- What public contracts promise.
pub mod Rounds
