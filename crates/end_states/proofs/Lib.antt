mod Stops
mod Waits
mod RightEnds
mod EqualTests
