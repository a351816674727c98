pub mod SameStreams
pub mod Seen
pub mod LookedTries
pub mod LookedTurns
pub mod Selected
pub mod Walks
pub mod FindingCircles
