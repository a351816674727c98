pub mod EqualRows
pub mod Writes
pub mod Kept
pub mod Asked
pub mod Agreed
pub mod Live
