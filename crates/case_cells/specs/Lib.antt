-- What public contracts promise: which lines say cells, what is wrong with a text that has others, which cells a case makes
-- of a submission's, and of which words its lines speak.
pub mod CellLines
pub mod NamedWords
pub mod SpokenWords
