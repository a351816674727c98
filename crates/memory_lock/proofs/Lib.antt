pub mod Growing
pub mod Running
mod Callers
mod Seats
mod Keeping
mod OneCall
mod Ending
mod TurnRunning
