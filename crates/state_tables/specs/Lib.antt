-- What public contracts promise: the states of a space as lists of numbers.
pub mod Rows
pub mod Targets
pub mod Depths
pub mod NumberSets
