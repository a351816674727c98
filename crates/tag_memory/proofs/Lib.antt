mod Ends
mod Paths
mod Words
mod PackedTags
mod BankCells
mod BankedCells
pub mod TwoRequests
pub mod NoForwards
pub mod Unchanged
pub mod TwoAdds
