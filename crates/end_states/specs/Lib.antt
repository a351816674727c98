-- What public contracts promise: who was stopped and who waits at an end, and how it is judged.
pub mod EndStates
pub mod Judgements
