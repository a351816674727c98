-- The definitions, all of them promises: the clauses of `ExitStatus` cite them.
pub mod Statuses
