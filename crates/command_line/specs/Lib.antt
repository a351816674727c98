-- The command line as clauses cite it.
pub mod CommandLine
