-- The definitions, in the order of reading: the lines of program words, labels, the lines
-- of data words and the names there, what the code holds of them, what a table of names says, the laws; lines that have a
-- fault. All of them are promises: clauses of public functions cite them.
pub mod ProgramLines
pub mod SourceLabels
pub mod DataLines
pub mod DataNames
pub mod SourcePlaces
pub mod NameTables
pub mod Laws
pub mod DataCells
pub mod FaultyLines
-- What only the code below it cites:
pub mod TimesSaid
