-- What public contracts promise, in the order of reading: which registers instructions read and write, that a step sees
-- no others, what may be read from a place on, which condition codes may be asked for, streams that agree, and tables.
pub mod Operands
pub mod Agreement
pub mod Flow
pub mod Codes
pub mod Agreeing
pub mod Tables
