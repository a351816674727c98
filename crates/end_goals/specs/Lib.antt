-- What public contracts promise: which ends are right, and which one is a first goal, and which
-- word says it.
pub mod RightEnds
pub mod Goals
pub mod GoalWords
