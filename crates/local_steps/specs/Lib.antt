-- What public contracts promise: which steps concern their own stream alone, and which end a stream beside which nobody
-- asks for one.
pub mod LocalSteps
pub mod NeverAsking
pub mod EndingSteps
pub mod SettledEndings
pub mod CalmPlaces
pub mod FreeSteps
