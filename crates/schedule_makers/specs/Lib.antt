-- What public contracts promise: which running stream each rule takes, and what is made by a rule.
pub mod Rules
pub mod Randomness
pub mod Free
pub mod Turns
pub mod Priorities
pub mod LeftOut
pub mod Seeds
pub mod Made
pub mod FairLengths
-- what holds of all that is made
pub mod Laws
-- Cited by private contracts alone: what a step comes to, and what choosers keep.
pub mod Advancing
pub mod Fair
pub mod Words
pub mod Changes
pub mod Choosers
