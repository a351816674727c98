-- What public contracts promise: what is wrong with a run, and what is told of the seeds.
pub mod RunFlaws
pub mod Seeds
pub mod ShownBySeeds
-- Cited by private contracts alone: what is told of the parts of a run.
pub mod EndFlaws
-- Of crates below, passed on to callers.
pub mod ScheduleVerdicts
pub mod BusyStreams
pub mod ScheduleSpace
pub mod ScheduleSpaceTypes
