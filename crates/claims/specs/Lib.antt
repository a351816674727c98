-- When a claim holds of a world, and what has to be there for it to mean something.
pub mod Holding
pub mod Missing
pub mod Breaks
pub mod Looking
