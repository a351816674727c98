-- Lemmas that several proofs share.
pub mod ScheduleSpace
mod PlaceStreams
mod Leading
mod StepEdges
mod Marks
pub mod Rounds
mod Telling
