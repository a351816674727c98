-- What public contracts promise: the words for the kinds of ends, which kind the end of a world is, and the exit status.
pub mod Words
pub mod Ends
pub mod Statuses
