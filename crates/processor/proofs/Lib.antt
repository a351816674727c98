pub mod TableViews
pub mod Begun
pub mod Awake
pub mod Counting
pub mod Opening
pub mod OtherStreams
pub mod World
pub mod Histories
pub mod OwnRuns
pub mod Weaving
pub mod Keeping
pub mod Turning
mod Current
mod ShortRow
mod StreamRuns
