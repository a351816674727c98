pub mod KeptStreams
pub mod KeptWorlds
pub mod Searches
