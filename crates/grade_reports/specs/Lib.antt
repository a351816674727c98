-- The promises, in the order of reading: clauses of public functions cite them.
pub mod Scores
pub mod RowStatuses
