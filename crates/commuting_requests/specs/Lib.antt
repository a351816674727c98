-- What public contracts promise: requests that commute, and steps that make them.
pub mod Pairs
pub mod RequestSteps
