pub mod Counting
pub mod Reading
pub mod RunsInFront
pub mod Values
pub mod WorldSteps
pub mod LinesRead
pub mod ReadBack
pub mod RunsRead
