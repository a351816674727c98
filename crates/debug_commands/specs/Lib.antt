-- The definitions, in the order of reading: the command that a line says, the faults, and the text of an answer.
-- All of them are promises: clauses of public functions cite them.
pub mod Commands
pub mod Faults
pub mod AnswerTexts
