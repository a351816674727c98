-- The promises, in the order of reading: clauses of public functions cite them.
pub mod Severity
pub mod Words
pub mod Cases
pub mod Right
pub mod Flaws
pub mod Missed
pub mod Witnesses
pub mod Statuses
pub mod Starved
pub mod Evaded
pub mod Known
pub mod Shown
pub mod Verdicts
pub mod Faults
-- Of crates below, passed on to callers.
pub mod ProgramSearches
