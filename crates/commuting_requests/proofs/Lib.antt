pub mod Leaving
pub mod Swapping
pub mod Unchanging
pub mod Distances
