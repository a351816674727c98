pub mod Ways
pub mod MadeTables
pub mod MadeStreams
pub mod MadeCodes
pub mod LeastTables
pub mod NeverMade
