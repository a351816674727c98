pub mod Lists
pub mod RowsSoFar
pub mod Telling
pub mod Leading
