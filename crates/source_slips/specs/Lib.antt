-- What public contracts promise, in the order of reading: which instruction stands at a place and where it leads straight,
-- from which places a stream runs on past the end, which conditions ask a code that no run has made, and how many codes
-- the ways to a place make at most, by tables.
pub mod Places
pub mod Falls
pub mod Codes
pub mod Made
pub mod MostCodes
