-- what holds for any command line
pub mod ClapFacts
-- what is about the tool's commands
pub mod Matches
pub mod Commands
