-- The promises, in the order of reading: clauses of public functions cite them.
pub mod MemoryWords
pub mod WordRanges
pub mod Meeting
pub mod NamedRegisters
