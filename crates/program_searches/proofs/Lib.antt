mod Knowing
mod Listed
mod Short
mod Waiting
mod AllAreKept
