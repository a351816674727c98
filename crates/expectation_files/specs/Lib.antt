-- The promises, in the order of reading: clauses of public functions cite them.
pub mod Words
pub mod WordSpans
pub mod Values
pub mod Addresses
pub mod WordLines
pub mod EndLines
pub mod ClaimLines
pub mod Conditions
pub mod LeadsLines
pub mod OvertakingLines
pub mod RestLines
pub mod RuleLines
pub mod WorkLines
pub mod Marks
pub mod Lines
pub mod Files
pub mod OfProgram
pub mod Faults
-- The aid: what the code holds of the words of a line, and of what was read.
pub mod OperandsSeen
pub mod Seen
-- What is judged by requirements.
pub mod Judged
