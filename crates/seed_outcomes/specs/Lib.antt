-- What public contracts promise: how seeds are shared out among outcomes, what the run of a seed comes to, what a survey
-- counts, and which outcomes a search met.
pub mod Sharing
pub mod SeedLists
pub mod SeedRuns
pub mod Outcomes
pub mod Coverage
-- Cited by private contracts alone: how outcomes are added to others, and what the parts of a survey are.
pub mod Adding
pub mod Parts
-- Of crates below, passed on to callers.
pub mod SeedVerdicts
pub mod SeedVerdictsTypes
pub mod SpaceEndsTypes
pub mod ScheduleVerdicts
pub mod EndStates
