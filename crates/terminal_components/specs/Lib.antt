-- What public contracts promise: ways along links, the places that can reach given ones, terminal components and cycles.
pub mod Ways
pub mod Reachability
pub mod Values
pub mod Cycles
pub mod Components
pub mod ReachMarks
