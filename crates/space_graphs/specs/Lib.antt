-- Which ends can still be reached from the worlds of a space.
pub mod Ahead
