mod OneOf
mod Writing
mod Asking
mod Registers
mod Leading
mod Passing
pub mod Staying
