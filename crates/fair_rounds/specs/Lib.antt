-- What public contracts promise: rounds, which of them are fair, ways that lead to them, and ways that come into places again
-- and again.
pub mod Rounds
pub mod Lassos
pub mod Entries
pub mod Classes
pub mod Starving
-- Cited by private contracts alone.
pub mod Checks
