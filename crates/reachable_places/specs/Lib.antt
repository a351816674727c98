-- What public contracts promise, in the order of reading: to which places an instruction leads, to which places ways lead,
-- and at which places streams stand.
pub mod Successors
pub mod Ways
pub mod Reached
-- What only the code below them cites:
pub mod Searches
