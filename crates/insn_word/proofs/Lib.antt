pub mod Candidate
pub mod Numbers
pub mod Read
pub mod Same
pub mod WordParts
pub mod ShortParts
