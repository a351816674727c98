-- What public contracts promise: what is known of a program's places, what a closed table is, and which streams stand by
-- it.
pub mod TouchTables
pub mod ClosedTables
pub mod Standing
