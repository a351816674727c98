-- The promises, in the order of reading: clauses of public functions cite them.
pub mod Actions
pub mod Places
pub mod Found
pub mod Marks
pub mod LostUpdates
pub mod UnreadStores
pub mod Pairs
pub mod TornReads
-- The aid: what the code looks for.
pub mod Links
pub mod Sought
pub mod Rounds
pub mod Own
pub mod Needs
pub mod Sources
pub mod Stale
