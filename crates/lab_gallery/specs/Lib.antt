-- What the commands decide on lists of values.
pub mod Levels
