-- Lemmas that several proofs share.
pub mod Walks
pub mod Lists
pub mod Bypassing
pub mod Removal
pub mod Checks
pub mod Starved
pub mod Ways
pub mod Entering
