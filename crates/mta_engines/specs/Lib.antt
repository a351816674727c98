-- The definitions, in the order of reading: first the promises, which clauses of public functions cite, then the aids.

-- what every engine reads and writes
pub mod Input
pub mod InputOutput
-- the command `words`: its lines, its machine, its text
pub mod ProgramLines
pub mod WordsMachine
pub mod WordsOutput
-- the commands `asm`, `list`, `run` and `threads`
pub mod AsmOutput
pub mod Images
pub mod ListOutput
pub mod RunOutput
pub mod ThreadsOutput
-- the command `debug`
pub mod DebugOutput
-- the first half of the headline, in one place
pub mod OneMachine
-- which faults an engine may answer, and how those of the lower crates are told
pub mod Faults
-- The aids: which room a machine has, of which no output tells; how lines are read from a reader one by one, and what
-- is written for them.
pub mod Rooms
pub mod LineReading
pub mod DebugAnswers
