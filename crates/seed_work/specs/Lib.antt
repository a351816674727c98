-- What the runs of seeds show of who does the work.
pub mod SeedWork
