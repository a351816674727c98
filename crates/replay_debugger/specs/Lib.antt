-- The definitions, in the order of reading. What public contracts promise:
-- the points of a session
pub mod Points
-- a session, its positions, and which of them are stops
pub mod Sessions
pub mod Stops
-- what each command answers, and where it is refused
pub mod Table
-- what a session tells of its schedule and its points, and its moves of so many steps at most
pub mod StreamSteps
pub mod PointLists
pub mod BoundedMoves
pub mod ScheduleChanges
-- What only private contracts cite: a machine at a position, machines that are kept at some, and what a run to a stop
-- looks at.
pub mod Places
pub mod Checkpoints
pub mod Watches
pub mod StopFinders
