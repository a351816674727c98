-- The definitions, in the order of reading. The promises, which contracts of public functions
-- cite or go back to:
pub mod Text
pub mod Faults
pub mod Numbers
pub mod Names
pub mod Heads
pub mod Operands
pub mod Parts
pub mod Instructions
pub mod Directives
pub mod Lines
pub mod Profiles
pub mod SourceLines
pub mod Labels
pub mod Ranges
-- The aids: what the code has of operands on its way.
pub mod OperandsSeen
