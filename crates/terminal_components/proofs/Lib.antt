-- Lemmas that several proofs share.
pub mod Values
pub mod Ways
pub mod Distances
pub mod Mirrors
pub mod TerminalMarks
pub mod Roots
pub mod BackwardReach
