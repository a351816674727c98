mod Answered
mod Chunks
