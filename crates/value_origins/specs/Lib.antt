-- The promises, in the order of reading: clauses of public functions cite them.
pub mod Streams
pub mod Locations
pub mod Origins
-- What the functions inside promise.
pub mod Tables
