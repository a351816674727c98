-- Who stores where in the steps of a run, and in the run by a schedule.
pub mod Work
pub mod Runs
