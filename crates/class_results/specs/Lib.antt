pub mod Parts
pub mod Merging
pub mod Classes
pub mod OneCall
pub mod MergedTables
