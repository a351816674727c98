-- What public contracts promise: since when a stream is tried in vain, which step turned a word last, who waits for
-- what, and a circle of streams that wait for one another.
pub mod Tries
pub mod Turns
pub mod StreamWaits
pub mod Circles
