-- The definitions, all of them promises: clauses of public functions cite them. What a record and a port come to while a
-- processor is driven, and what a run of all leaves;
pub mod Driving
pub mod Runs
-- what a seat at the turn memory's table knows and what a step tells it, the table's rule, and what a run through it leaves.
pub mod Seats
pub mod Tickets
pub mod TurnRuns
