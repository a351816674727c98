-- The definitions, in the order of reading. Contracts of public functions cite them, or go back to them.
pub mod WordText
pub mod DirectiveLines
-- The promise: each line is read back.
pub mod Laws
