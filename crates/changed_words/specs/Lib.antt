-- Which words of a memory are not as its image has them.
pub mod Changed
