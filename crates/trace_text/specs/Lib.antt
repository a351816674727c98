-- The promises, in the order of reading: clauses of public functions cite them.
pub mod ScheduleLines
pub mod ScheduleFaults
pub mod Schedules
pub mod Runs
pub mod Rounds
pub mod TraceLines
pub mod HistoryLines
pub mod WorldTexts
pub mod Laws
-- The aids: what the code has of them on its way.
pub mod Fields
pub mod LineNumbers
pub mod LineRuns
pub mod WorldParts
