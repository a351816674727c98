pub mod LastOnes
pub mod FirstPosition
pub mod NextWorlds
