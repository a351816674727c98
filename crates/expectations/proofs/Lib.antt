mod Resting
mod Ranges
