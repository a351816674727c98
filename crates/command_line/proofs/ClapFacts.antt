-- Facts about `clap` that hold for any command line of this shape, and know nothing of the tool's commands.
pub mod Stops
pub mod Filled
pub mod FilledWalks
pub mod Levels
pub mod Getters
