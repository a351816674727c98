pub mod AllMarks
mod Before
mod Between
mod Chains
mod Finding
mod Glimpses
mod Held
pub mod Looks
mod LostUpdates
pub mod Needed
mod Overwritten
pub mod OwnSteps
mod Parted
pub mod SourceSteps
mod TornReads
pub mod Unmarked
mod UnreadStores
mod Words
