-- What public contracts promise.
pub mod Places
pub mod Numbers
pub mod Changes
pub mod Laws
pub mod StepViews
pub mod FullBits
-- What the functions inside promise.
pub mod Comparing
