-- The definitions that public contracts cite, in the order of reading: numbers, then parts and lines of texts.
pub mod Digits
pub mod Columns
pub mod Reading
pub mod Numbers
pub mod Laws
pub mod Pieces
pub mod Lines
pub mod Runs
-- What the code has of numbers on its way.
pub mod Text
